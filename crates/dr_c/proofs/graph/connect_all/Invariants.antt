use Rattle.std.proofs.Common.{◌≡◌}
use Rattle.dr_c.specs.Asked.{AreAsked}
use Rattle.dr_c.proofs.graph.connect_all.Given as goal

abbrev pub invariant-loop-handler : goal.invariant-loop-handler
invariant-loop-handler l = record {
  names : l.builder.names ≡ l.fn.builder.names;
  edges : AreAsked l.masks l.handler 0 l.builder.edges;
}
