use Rattle.std.proofs.Common.{◌≡◌, ◌++◌, ◌-◌}
use Rattle.std.specs.List.{range_with_len}
use Rattle.dr_graph.specs.Meaning.Declaration.{edges_between}
use Rattle.dr_graph.proofs.edge.with_followers.Given as goal

abbrev pub invariant-loop-down : goal.invariant-loop-down
invariant-loop-down l = l.all.items ≡ l.edges ++ edges_between l.ups (range_with_len l.first (l.down - l.first))
