use Rattle.std.proofs.Common.{◌≡◌}
use Rattle.dr_cells_tests.specs.Turns.{Waits}
use Rattle.dr_cells_tests.proofs.passing.add_often.Given as goal

abbrev pub invariant-loop : goal.invariant-loop
invariant-loop l = (l.seat.table_id ≡ l.fn.slot.table_id) × Waits l.fn.cells l.seat.me
