use Rattle.std.proofs.Common.{◌≡◌, List}
use Rattle.dr_runs.proofs.Gathering.{Gathering, Filled}
use Rattle.dr_ring.specs.Inside.Seats.{ring_ends}
use Rattle.dr_ring.specs.Inside.Gathering.{receiver_known}
use Rattle.dr_ring.specs.Calls.Ends.{ReceiverEnd}
use Rattle.dr_ring.specs.Calls.Settling.{handler_counts}
use Rattle.dr_ring.proofs.settled.gather_receivers.Given as goal

abbrev pub invariant-loop-receiver : goal.invariant-loop-receiver
invariant-loop-receiver l = (l.seat.table_id ≡ l.fn.seat.table_id)
    × ((seen : List ReceiverEnd) × Gathering ring_ends receiver_known l.fn.seat.me.0 l.seat.me.0 l.receivers.items seen l.fn.receivers.items
    × Filled (λ (e : ReceiverEnd). handler_counts e.knows) l.receivers.items seen l.fn.receivers.items l.counts.items)

abbrev pub decreases-loop-receiver : goal.decreases-loop-receiver
decreases-loop-receiver l = goal.left-loop-receiver l
