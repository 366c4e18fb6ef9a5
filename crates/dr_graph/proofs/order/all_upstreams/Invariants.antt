use Rattle.std.proofs.Common.{◌≡◌, length, map}
use Rattle.dr_graph.specs.Meaning.Graph.{AreLists}
use Rattle.dr_graph.proofs.order.all_upstreams.Given as goal

abbrev pub invariant-loop-h : goal.invariant-loop-h
invariant-loop-h l = record {
  len : length l.lists.items ≡ l.h;
  each : AreLists l.edges l.order (map (λ ups. ups.items) l.lists.items);
}
