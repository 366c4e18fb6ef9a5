use Rattle.std.proofs.Common.{◌≡◌, List, length}
use Rattle.dr_runs.proofs.Gathering.{Gathering}
use Rattle.dr_plain_senders.specs.Inside.Seats.{ring_ends}
use Rattle.dr_plain_senders.specs.Inside.Gathering.{sender_known}
use Rattle.dr_plain_senders.specs.Inside.Bringing.{AreBrought}
use Rattle.dr_plain_senders.specs.Calls.Ends.{SenderEnd}
use Rattle.dr_plain_senders.proofs.finishing.gather_senders.Given as goal

abbrev pub invariant-loop-sender : goal.invariant-loop-sender
invariant-loop-sender g l = (l.seat.table_id ≡ l.fn.seat.table_id) × (l.seat.me.1 ≡ l.fn.seat.me.1)
    × ((seen : List (SenderEnd g.row.T.Denot)) × Gathering ring_ends sender_known l.fn.seat.me.0 l.seat.me.0 l.senders.items seen l.fn.senders.items
    × AreBrought l.plan seen l.tokens.items l.brought.items)

abbrev pub decreases-loop-sender : goal.decreases-loop-sender
decreases-loop-sender g l = length l.senders.items
