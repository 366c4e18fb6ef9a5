use Rattle.std.proofs.Common.{◌≡◌, ◌+◌, sym, ap, ◌∙◌, map, take, slice_index, get_or, min}
use Rattle.dr_graph.specs.Meaning.Graph.{least_of}
use Rattle.std.specs.Prelude.{◌==◌, if◌then◌else◌}
use Rattle.std.proofs.lemmas.Bool.{cond-true, cond-false, eq-eqb, ne_eqb}
use Rattle.dr_meaning.proofs.Leasts.{least_of-more}
use Rattle.dr_core.proofs.least.least_count.Goals as goal
use Rattle.dr_core.proofs.least.least_count.Goals.{then-i-eq0, else-i-eq0}

pub loop-i-preserved : goal.loop-i-preserved
loop-i-preserved c =
    let f = λ (h : Prim.Native.Nat.ℕ). slice_index c.args.counts.now h in
    let more : least_of (map f (take (c.loop-i.i + 1) c.args.handlers.now)) ≡ (if c.loop-i.i == 0 then f (get_or c.args.handlers.now c.loop-i.i 0) else min (least_of (map f (take c.loop-i.i c.args.handlers.now))) (f (get_or c.args.handlers.now c.loop-i.i 0))) = least_of-more f c.args.handlers.now c.loop-i.i c.loop-i-test.true in
    rw more (elim c.if-i-eq0.branch [ then-i-eq0 w ↦ w.least-is ∙ sym (cond-true (c.loop-i.i == 0) _ _ (eq-eqb _ _ w.if-i-eq0.true)) | else-i-eq0 w ↦ w.least-is ∙ w.min-least.ensures ∙ ap (λ n. min n (slice_index c.args.counts.now (get_or c.args.handlers.now c.loop-i.i 0))) c.loop-i.invariant ∙ sym (cond-false (c.loop-i.i == 0) _ _ (ne_eqb _ _ w.if-i-eq0.false)) ])
