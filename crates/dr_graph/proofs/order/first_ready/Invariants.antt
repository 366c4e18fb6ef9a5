use Rattle.std.proofs.Common.{◌≡◌, ℕ, ◌<◌, false}
use Rattle.dr_graph.specs.Meaning.Order.{is_ready}
use Rattle.dr_graph.proofs.order.first_ready.Given as goal

abbrev pub invariant-loop-h : goal.invariant-loop-h
invariant-loop-h l = (j : ℕ) → j < l.h → is_ready l.edges l.placed j ≡ false
