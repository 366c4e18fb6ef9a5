use Rattle.std.proofs.Common.{◌≡◌, ◌≤◌, List, map, length, Option}
use Rattle.dr_plain_senders.specs.Meaning.Lying.{Laid}
use Rattle.dr_plain_senders.specs.Inside.Finishing.{AreWide, AreRows}
use Rattle.dr_plain_senders.proofs.Returning.{Back}
use Rattle.dr_plain_senders.proofs.reclaiming.reclaim.Given as goal

abbrev pub invariant-loop-sequence : goal.invariant-loop-sequence
invariant-loop-sequence g l = (l.seat.table_id ≡ l.fn.seat.table_id) × (l.claimed ≤ l.sequence)
    × AreWide l.plan (map (λ hand. hand.items) l.hands.items) × (length l.tokens.items ≡ l.plan.size)
    × ((laid : List (Option (Laid g.row.T.Denot)))
    → AreRows l.plan l.counts.items l.claimed laid l.fn.seat.me.1 (map (λ hand. hand.items) l.fn.hands.items) l.brought.items
    → Back l.plan l.counts.items l.claimed l.sequence laid l.fn.tokens.items l.seat.me.1 (map (λ hand. hand.items) l.hands.items) l.tokens.items)
