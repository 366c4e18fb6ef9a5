use Rattle.std.proofs.Common.{◌≤◌, ◌-◌}
use Rattle.dr_lent.specs.Trades.{SamePlaces}
use Rattle.dr_plain_senders.specs.Inside.Owned.{is_open}
use Rattle.dr_plain_senders.specs.Inside.Bringing.{AreTaken}
use Rattle.dr_plain_senders.proofs.finishing.bring_open.Given as goal

abbrev pub invariant-loop-sequence : goal.invariant-loop-sequence
invariant-loop-sequence g l = let first = l.end - l.plan.size in (first ≤ l.sequence)
    × SamePlaces l.plan.size first l.sequence l.fn.own.items l.own.items
    × AreTaken l.plan (is_open l.owned) first l.sequence l.fn.own.items l.fn.tokens.items l.tokens.items l.fn.brought.items l.brought.items
