use Rattle.std.proofs.Common.{ℕ, Bool, slice_index}
use Rattle.dr_graph.specs.Meaning.Graph.{flagged}
use Rattle.dr_meaning.proofs.Leasts.{least_turn, least_skip}
use Rattle.dr_core.proofs.least.least_flagged.Goals as goal
use Rattle.dr_core.proofs.least.least_flagged.Goals.{then-flags-h, else-flags-h}

pub loop-h-preserved : goal.loop-h-preserved
loop-h-preserved c =
    let p : ℕ → Bool = flagged c.args.flags.now in
    let counts : ℕ → ℕ = λ h. slice_index c.args.counts.now h in
    elim c.if-flags-h.branch [
      | then-flags-h w ↦ rw (w.found-is, w.least-is) (least_turn p counts c.loop-h.h c.loop-h.found c.loop-h.least w.lesser-least.result c.loop-h.invariant w.if-flags-h.true w.lesser-least.ensures)
      | else-flags-h w ↦ rw (w.found-is, w.least-is) (least_skip p counts c.loop-h.h c.loop-h.found c.loop-h.least c.loop-h.invariant w.if-flags-h.false)
    ]
