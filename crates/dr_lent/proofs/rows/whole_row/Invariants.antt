use Rattle.std.proofs.Common.{◌≡◌}
use Rattle.dr_lent.proofs.Rowed.{Rowed}
use Rattle.dr_lent.proofs.rows.whole_row.Given as goal

abbrev pub invariant-loop-place : goal.invariant-loop-place
invariant-loop-place g l = (l.row.strip ≡ l.fn.cells.ptr) × (l.row.from ≡ 0) × Rowed l.fn.cells.ptr l.place l.fn.tokens.items l.tokens.items l.row.items
