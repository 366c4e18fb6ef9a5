use Rattle.std.proofs.Common.{◌≡◌}
use Rattle.dr_lent.proofs.Dealing.{Dealt}
use Rattle.dr_lent.proofs.rows.deal.Given as goal

abbrev pub invariant-loop-place : goal.invariant-loop-place
invariant-loop-place g l = (l.row.strip ≡ l.fn.cells.ptr) × (l.row.from ≡ l.place)
    × Dealt l.fn.cells.ptr l.fn.count l.place l.fn.row.items l.row.items l.fn.tokens.items l.tokens.items
