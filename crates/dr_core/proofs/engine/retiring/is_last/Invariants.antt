use Rattle.std.proofs.Common.{◌≡◌, ◌==◌, ◌||◌, false}
use Rattle.dr_graph.specs.Meaning.Graph.{flagged, is_some_left}
use Rattle.dr_core.proofs.engine.retiring.is_last.Given as goal

abbrev pub invariant-loop-k : goal.invariant-loop-k
invariant-loop-k l = is_some_left l.k (λ k. flagged l.retired k || k == l.h) ≡ false
