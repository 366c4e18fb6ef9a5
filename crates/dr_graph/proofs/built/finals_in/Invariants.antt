use Rattle.std.proofs.Common.{◌≡◌, map, filter}
use Rattle.std.specs.List.{range_with_len}
use Rattle.dr_graph.specs.Meaning.Graph.{is_final}
use Rattle.dr_graph.proofs.built.finals_in.Given as goal

abbrev pub invariant-loop-h : goal.invariant-loop-h
invariant-loop-h l = l.finals.items ≡ filter (is_final (map (λ ups. ups.items) l.upstreams)) (range_with_len 0 l.h)
