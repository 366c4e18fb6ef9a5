use Rattle.std.proofs.Common.{◌≡◌, ◌++◌, flat_map, string_bytes}
use Rattle.std.specs.List.{range_with_len}
use Rattle.dr_drive.specs.Inside.States.{handler_seen}
use Rattle.dr_drive.proofs.states.push_handlers.Given as goal

abbrev pub invariant-loop-h : goal.invariant-loop-h
invariant-loop-h l = string_bytes l.line ≡ string_bytes l.initial.line ++ flat_map (handler_seen l.core) (range_with_len 0 l.h)
