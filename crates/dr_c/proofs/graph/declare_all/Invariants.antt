use Rattle.std.proofs.Common.{◌≡◌}
use Rattle.dr_c.specs.Asked.{numbered}
use Rattle.dr_c.proofs.graph.declare_all.Given as goal

abbrev pub invariant-loop-handler : goal.invariant-loop-handler
invariant-loop-handler l = record {
  names : l.builder.names ≡ numbered l.handler;
  edges : l.builder.edges ≡ l.fn.builder.edges;
}
