use Rattle.std.proofs.Common.{ℕ, Bool, not, ◌==◌, ◌||◌, length, sym, ap, ◌∙◌}
use Rattle.dr_graph.specs.Meaning.Graph.{flagged}
use Rattle.dr_graph.proofs.Gating.{any_more, any_here}
use Rattle.dr_core.proofs.engine.retiring.is_last.Goals as goal

pub returns-then-is_left_beside : goal.returns-then-is_left_beside
returns-then-is_left_beside c =
    let p : ℕ → Bool = λ k. not (flagged c.args.retired.now k || k == c.args.h) in
    sym (ap not (any_here p (length c.args.retired.now) c.loop-k.k c.loop-k-test.true (sym c.is_left_beside.ensures ∙ c.if-is_left_beside.true)))

pub loop-k-preserved : goal.loop-k-preserved
loop-k-preserved c =
    let p : ℕ → Bool = λ k. not (flagged c.args.retired.now k || k == c.args.h) in
    any_more p c.loop-k.k c.loop-k.invariant (sym c.is_left_beside.ensures ∙ c.if-is_left_beside.false)
