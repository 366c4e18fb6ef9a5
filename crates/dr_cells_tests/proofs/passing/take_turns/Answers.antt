use Rattle.std.proofs.Common.{arith, ◌∙◌, sym, ap, ℕ}
use Rattle.atomic_table.specs.Table.{Me}
use Rattle.dr_cells.specs.declared.cells.Cells.{Cells}
use Rattle.dr_cells.specs.declared.token.Token.{Token}
use Rattle.dr_cells_tests.proofs.Turns.{may_split}
use Rattle.dr_cells_tests.proofs.passing.take_turns.Goals as goal

pub split_seat-right-requires : goal.split_seat-right-requires
split_seat-right-requires g c =
    let told = c.in-Ok-new.ensures.ok in
    (told.2, omega (arith, told.0), may_split _ _ _ (ap (λ (m : Me (Token ℕ) (Cells ℕ)). m.0) told.4 ∙ sym told.5))
