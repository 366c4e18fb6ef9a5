use Rattle.std.proofs.Common.{◌≡◌, List, length, map}
use Rattle.dr_runs.proofs.Gathering.{Gathering, Filled}
use Rattle.dr_plain.specs.Inside.Seats.{ring_ends}
use Rattle.dr_plain.specs.Inside.Gathering.{receiver_known}
use Rattle.dr_plain.specs.Calls.Ends.{ReceiverEnd}
use Rattle.dr_plain.specs.Calls.Settling.{handler_counts}
use Rattle.dr_plain.proofs.Handed.{Handed}
use Rattle.dr_plain.proofs.over.gather_receivers_left.Given as goal

abbrev pub invariant-loop-receiver : goal.invariant-loop-receiver
invariant-loop-receiver g l = (l.seat.table_id ≡ l.fn.seat.table_id) × (l.seat.me.1 ≡ l.fn.seat.me.1)
    × ((seen : List (ReceiverEnd g.row.T.Denot)) × Gathering ring_ends receiver_known l.fn.seat.me.0 l.seat.me.0 l.receivers seen l.fn.receivers
    × Filled (λ (e : ReceiverEnd g.row.T.Denot). handler_counts e.knows) l.receivers seen l.fn.receivers l.counts.items
    × Handed (length l.receivers) seen (map (λ hand. hand.items) l.hands.items) (length l.fn.receivers))

abbrev pub decreases-loop-receiver : goal.decreases-loop-receiver
decreases-loop-receiver g l = length l.receivers
