use Rattle.std.proofs.Common.{◌≡◌, ◌<◌, ℕ, length}
use Rattle.dr_graph.specs.Meaning.Graph.{flagged, is_final_without}
use Rattle.dr_core.proofs.engine.retiring.flag_gating.Given as goal

abbrev pub invariant-loop-h : goal.invariant-loop-h
invariant-loop-h l =
    (length l.flags ≡ length l.graph.upstreams) × ((k : ℕ) → k < l.h → flagged l.flags k ≡ is_final_without l.graph.upstreams (flagged l.gone) k)
