use Rattle.std.proofs.Common.{◌≡◌}
use Rattle.dr_c.specs.Asked.{AreAsked}
use Rattle.dr_c.proofs.graph.connect.Given as goal

abbrev pub invariant-loop-up : goal.invariant-loop-up
invariant-loop-up l = record {
  names : l.builder.names ≡ l.fn.builder.names;
  edges : AreAsked l.fn.masks l.handler l.up l.builder.edges;
}
