use Rattle.std.proofs.Common.{sym, ap, ◌∙◌, Vec, ℕ, Global, map}
use Rattle.dr_graph.specs.Meaning.Graph.{is_final}
use Rattle.dr_graph.proofs.Gating.{filter_push, filter_skip}
use Rattle.dr_graph.proofs.built.finals_in.Goals as goal
use Rattle.dr_graph.proofs.built.finals_in.Goals.{then-is_final_in+in_ok-push, else-is_final_in}

pub loop-h-preserved : goal.loop-h-preserved
loop-h-preserved c =
    let p = is_final (map (λ (ups : Vec ℕ Global). ups.items) c.args.upstreams.now) in
    elim c.if-is_final_in.branch [
      | then-is_final_in+in_ok-push w ↦ filter_push p c.loop-h.h c.loop-h.finals.items c.if-is_final_in.finals.items c.loop-h.invariant
          (sym c.is_final_in.ensures ∙ w.if-is_final_in.true) (ap (λ (v : Vec ℕ Global). v.items) w.finals-is ∙ w.in_ok-push.ensures.items)
      | else-is_final_in w ↦ filter_skip p c.loop-h.h c.loop-h.finals.items c.if-is_final_in.finals.items c.loop-h.invariant
          (sym c.is_final_in.ensures ∙ w.if-is_final_in.false) (ap (λ (v : Vec ℕ Global). v.items) w.finals-is)
    ]
