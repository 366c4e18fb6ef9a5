use Rattle.std.proofs.Common.{◌≡◌, ◌++◌, flat_map, string_bytes}
use Rattle.std.specs.List.{range_with_len}
use Rattle.dr_show.specs.Meaning.StateText.{upstream_text}
use Rattle.dr_show.proofs.exchanges.put_upstreams.Given as goal

abbrev pub invariant-loop-place : goal.invariant-loop-place
invariant-loop-place l = string_bytes l.page ≡ string_bytes l.initial.page ++ flat_map (upstream_text l.upstreams) (range_with_len 0 l.place)
