use Rattle.std.proofs.Common.{◌≡◌, ◌++◌, codes, flat_map, string_bytes, take}
use Rattle.dr_drive.specs.Meaning.Lines.{event_text}
use Rattle.dr_drive.proofs.lines.push_events.Given as goal

abbrev pub invariant-loop-event : goal.invariant-loop-event
invariant-loop-event l = string_bytes l.line ≡ string_bytes l.initial.line ++ flat_map (λ e. codes " " ++ event_text e) (take l.event-index l.events)
