use Rattle.dr_cells_tests.proofs.Turns.{comes_back}
use Rattle.dr_cells_tests.proofs.passing.finish.Goals as goal

pub returns-then-word-eq1 : goal.returns-then-word-eq1
returns-then-word-eq1 c =
    comes_back _ _ _ _ _ c.close-closed.ensures.values.2 c.word-word.ensures c.take-token.ensures.value c.if-word-eq1.true
