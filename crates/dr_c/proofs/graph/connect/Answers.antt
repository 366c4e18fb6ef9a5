use Rattle.std.proofs.Common.{◌∙◌, ◌+◌, length, arith, ap, refl, sym, subst}
use Rattle.std.proofs.lemmas.Bool.{eq-eqb, ne_eqb}
use Rattle.dr_graph.specs.Meaning.Declaration.{Declaration}
use Rattle.dr_graph.specs.declared.fault.GraphFault.TheVariants.{NoMemory}
use Rattle.dr_c.specs.Asked.{AreAsked}
use Rattle.dr_c.proofs.Asked.{asked_skip, edges_next, fault_as, lacks_at_edge}
use Rattle.dr_c.proofs.graph.connect.Goals as goal
use Rattle.dr_c.proofs.graph.connect.Goals.{then-mask-up-eq1+in_ok-edge, else-mask-up-eq1}

pub returns-in_err-edge-clause-memory : goal.returns-in_err-edge-clause-memory
returns-in_err-edge-clause-memory c =
    let here = c.requires.here in let below = c.loop-up-test.true in
    let lacks = lacks_at_edge c.loop-up.builder.names _ _ (length c.args.masks.now) c.loop-up.up c.args.handler _ (c.loop-up.invariant.names ∙ c.requires.names)
    c.name.ensures c.name-then-mask-up-eq1.ensures (omega arith) here c.in_err-edge.ensures.answer in
    fault_as c.from_residual.result _ NoMemory c.from_residual.ensures.1 lacks

pub loop-up-preserved : goal.loop-up-preserved
loop-up-preserved c =
    let here = c.requires.here in let below = c.loop-up-test.true in
    elim c.if-mask-up-eq1.branch [
      | then-mask-up-eq1+in_ok-edge w ↦ record {
        names = ap (λ (d : Declaration). d.names) (w.builder-is ∙ w.in_ok-edge.ensures.connected) ∙ c.loop-up.invariant.names;
        edges = edges_next c.args.masks.now c.loop-up.builder c.if-mask-up-eq1.builder _ _ (length c.args.masks.now) c.loop-up.up c.args.handler c.requires.few
            (c.loop-up.invariant.names ∙ c.requires.names) w.name.ensures w.name-then-mask-up-eq1.ensures here refl (omega arith)
            (eq-eqb _ _ w.if-mask-up-eq1.true) (w.builder-is ∙ w.in_ok-edge.ensures.connected) c.loop-up.invariant.edges;
      }
      | else-mask-up-eq1 w ↦ record {
        names = ap (λ (d : Declaration). d.names) w.builder-is ∙ c.loop-up.invariant.names;
        edges = subst (λ (d : Declaration). AreAsked c.args.masks.now c.args.handler (c.loop-up.up + 1) d.edges) (sym w.builder-is)
            (asked_skip c.args.masks.now c.args.handler c.loop-up.up c.loop-up.builder.edges c.loop-up.invariant.edges (ne_eqb _ _ w.if-mask-up-eq1.false));
      }
    ]
