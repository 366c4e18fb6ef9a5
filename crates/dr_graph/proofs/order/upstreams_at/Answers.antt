use Rattle.std.proofs.Common.{◌+◌, ℕ, sym, ap, ◌∙◌, Vec, Global}
use Rattle.dr_graph.specs.Meaning.Graph.{leads_to, AreChosen}
use Rattle.dr_graph.proofs.Chosen.{chosen_push, chosen_skip}
use Rattle.std.proofs.Common.{subst, List}
use Rattle.dr_graph.proofs.order.upstreams_at.Goals as goal
use Rattle.dr_graph.proofs.order.upstreams_at.Goals.{then-is_upstream+in_ok-push, else-is_upstream}

pub loop-u-preserved : goal.loop-u-preserved
loop-u-preserved c =
    let choose = leads_to c.args.edges.now c.args.order.now c.args.h in
    elim c.if-is_upstream.branch [
      | then-is_upstream+in_ok-push w ↦ chosen_push choose c.loop-u.u c.loop-u.ups.items c.if-is_upstream.ups.items c.loop-u.invariant
          (sym c.is_upstream.ensures ∙ w.if-is_upstream.true)
          (ap (λ (v : Vec ℕ Global). v.items) w.ups-is ∙ w.in_ok-push.ensures.items)
      | else-is_upstream w ↦ subst (λ (xs : List ℕ). AreChosen choose (c.loop-u.u + 1) xs) (sym (ap (λ (v : Vec ℕ Global). v.items) w.ups-is))
          (chosen_skip choose c.loop-u.u c.loop-u.ups.items c.loop-u.invariant (sym c.is_upstream.ensures ∙ w.if-is_upstream.false))
    ]
