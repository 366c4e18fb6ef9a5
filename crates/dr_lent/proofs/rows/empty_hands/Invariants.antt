use Rattle.std.proofs.Common.{◌≡◌, [], length, All}
use Rattle.dr_lent.proofs.rows.empty_hands.Given as goal

abbrev pub invariant-loop-made : goal.invariant-loop-made
invariant-loop-made g l = (length l.hands.items ≡ l.made) × All (λ hand. hand.items ≡ []) l.hands.items
