use Rattle.std.proofs.Common.{◌≡◌, map}
use Rattle.dr_plain_senders.specs.Meaning.Words.{cell_of}
use Rattle.dr_plain_senders.specs.Inside.Finishing.{SameBut}
use Rattle.dr_plain_senders.proofs.Returning.{Taking, SameRows}
use Rattle.dr_plain_senders.proofs.reclaiming.reclaim_parts.Given as goal

abbrev pub invariant-loop-handler : goal.invariant-loop-handler
invariant-loop-handler g l = (l.seat.table_id ≡ l.fn.seat.table_id)
    × Taking l.plan l.counts.items l.sequence l.fn.kept l.fn.seat.me.1 l.handler l.seat.me.1 l.kept
    × SameBut (cell_of l.plan l.sequence) (map (λ hand. hand.items) l.fn.hands.items) (map (λ hand. hand.items) l.hands.items)
    × SameRows l.handler (map (λ hand. hand.items) l.fn.hands.items) (map (λ hand. hand.items) l.hands.items)
