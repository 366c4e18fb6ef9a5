use Rattle.std.proofs.Common.{◌∷◌, [], ◌∙◌, arith, ap}
use Rattle.dr_graph.specs.Meaning.Declaration.{Declaration}
use Rattle.dr_graph.specs.declared.fault.GraphFault.TheVariants.{NoMemory}
use Rattle.dr_c.proofs.Asked.{fault_as, lacks_at_name, names_next}
use Rattle.dr_c.proofs.graph.declare_all.Goals as goal

pub returns-in_err-_group-clause-memory : goal.returns-in_err-_group-clause-memory
returns-in_err-_group-clause-memory c =
    let few = c.requires.few in let below = c.loop-handler-test.true in
    let lacks = lacks_at_name _ c.loop-handler.builder.names _ c.loop-handler.handler _ (omega arith) c.loop-handler.invariant.names
    (ap (λ n. n ∷ []) c.name.ensures) c.in_err-_group.ensures.answer in
    fault_as c.from_residual.result _ NoMemory c.from_residual.ensures.1 lacks

pub loop-handler-preserved : goal.loop-handler-preserved
loop-handler-preserved c = record {
  names = names_next c.loop-handler.builder.names c.handle_with.new.self.names _ c.loop-handler.handler c.loop-handler.invariant.names
      (ap (λ n. n ∷ []) c.name.ensures) (ap (λ (d : Declaration). d.names) c.in_ok-_group.ensures.declared);
  edges = ap (λ (d : Declaration). d.edges) c.in_ok-_group.ensures.declared ∙ c.loop-handler.invariant.edges;
}
