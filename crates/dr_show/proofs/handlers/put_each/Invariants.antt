use Rattle.std.proofs.Common.{◌≡◌, ◌++◌, flat_map, string_bytes}
use Rattle.std.specs.List.{range_with_len}
use Rattle.dr_show.specs.Inside.Seen.{handler_seen}
use Rattle.dr_show.proofs.handlers.put_each.Given as goal

abbrev pub invariant-loop-h : goal.invariant-loop-h
invariant-loop-h l = string_bytes l.page ≡ string_bytes l.initial.page ++ flat_map (handler_seen l.core) (range_with_len 0 l.h)
