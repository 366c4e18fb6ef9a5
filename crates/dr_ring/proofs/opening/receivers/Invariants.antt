use Rattle.std.proofs.Common.{◌≡◌, ◌-◌, ◌++◌, map}
use Rattle.std.specs.Arc.{arc_value}
use Rattle.dr_ring.specs.Meaning.Shape.{handlers_of}
use Rattle.dr_ring.specs.Meaning.Moments.{fresh_receivers}
use Rattle.dr_runs.specs.Seats.{fresh_seat}
use Rattle.dr_ring.specs.Inside.Seats.{known_receivers}
use Rattle.dr_ring.specs.Calls.Making.{receiver_at_ring}
use Rattle.dr_ring.proofs.opening.receivers.Given as goal

abbrev pub invariant-loop-number : goal.invariant-loop-number
invariant-loop-number l = (l.rest.table_id ≡ l.fn.rest.table_id)
    × (l.rest.me ≡ fresh_seat (known_receivers (arc_value l.ring).plan l.number (handlers_of (arc_value l.ring).plan - l.number)))
    × (l.receivers.items
    ++ map (receiver_at_ring l.fn.rest.table_id) (fresh_receivers (arc_value l.ring).plan l.number (handlers_of (arc_value l.ring).plan - l.number))
    ≡ map (receiver_at_ring l.fn.rest.table_id) (fresh_receivers (arc_value l.ring).plan 0 (handlers_of (arc_value l.ring).plan)))
