use Rattle.std.proofs.Common.{◌≡◌, map, false}
use Rattle.std.specs.Prelude.{not, ◌&&◌}
use Rattle.std.specs.List.{list_any, range_with_len}
use Rattle.dr_graph.specs.Meaning.Order.{is_in}
use Rattle.dr_graph.specs.Meaning.Graph.{upstreams_of, flagged}
use Rattle.dr_graph.proofs.built.is_followed_in_without.Given as goal

abbrev pub invariant-loop-k : goal.invariant-loop-k
invariant-loop-k l = list_any (λ k. not (flagged l.gone k) && is_in (upstreams_of (map (λ ups. ups.items) l.upstreams) k) l.h) (range_with_len 0 l.k) ≡ false
