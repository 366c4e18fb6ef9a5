use Rattle.std.proofs.Common.{◌≡◌, ◌++◌, take}
use Rattle.dr_graph.specs.Meaning.Declaration.{edges_to}
use Rattle.dr_graph.proofs.edge.add_edges.Given as goal

abbrev pub invariant-loop-up : goal.invariant-loop-up
invariant-loop-up l = l.edges.items ≡ l.initial.edges.items ++ edges_to (take l.up-index l.ups) l.down
