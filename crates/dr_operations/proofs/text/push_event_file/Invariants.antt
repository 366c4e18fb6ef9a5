use Rattle.std.proofs.Common.{◌≡◌, ◌++◌, drop, string_bytes}
use Rattle.dr_operations.specs.Written.{file_of}
use Rattle.dr_operations.proofs.text.push_event_file.Given as goal

abbrev pub invariant-loop-event : goal.invariant-loop-event
invariant-loop-event l = string_bytes l.fn.text ++ file_of l.events ≡ string_bytes l.text ++ file_of (drop l.event-index l.events)
