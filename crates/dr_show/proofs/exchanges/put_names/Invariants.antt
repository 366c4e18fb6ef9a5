use Rattle.std.proofs.Common.{◌≡◌, ◌++◌, flat_map, string_bytes}
use Rattle.std.specs.List.{range_with_len}
use Rattle.dr_show.specs.Meaning.StateText.{named_object}
use Rattle.dr_show.proofs.exchanges.put_names.Given as goal

abbrev pub invariant-loop-h : goal.invariant-loop-h
invariant-loop-h l = string_bytes l.page ≡ string_bytes l.initial.page ++ flat_map (named_object l.graph.names l.graph.upstreams) (range_with_len 0 l.h)
