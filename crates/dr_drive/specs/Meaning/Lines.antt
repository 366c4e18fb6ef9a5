-- The line of each reply. Parts are separated by one space, and each line ends with a line feed.
use Rattle.std.specs.Prelude.{ℕ, Bool, ◌==◌, if◌then◌else◌, List, ◌++◌, flat_map, codes, decimal}
use Rattle.dr_seq.specs.declared.event.Event.{Event}
use Rattle.dr_meaning.specs.declared.command.Reply.{Reply}
use Rattle.dr_meaning.specs.declared.command.Reply.TheVariants.{Claimed, Written, Published, Batch, Drained, Gating, Idle, Completed, Halting, Retired, Refused}
use Rattle.dr_meaning.specs.Calls.Refusal.{number_of, name_of}
use Rattle.dr_files.specs.Lines.{Line}

-- an event: its first word, and its second word where that is not 0
abbrev pub event_text : Event → List ℕ
event_text e = if e.second == 0 then decimal e.first else decimal e.first ++ codes ":" ++ decimal e.second

-- whether these are all the events that the handler's barrier offered
abbrev pub end_text : Bool → List ℕ
end_text end = if end then codes "end" else codes "more"

-- a reply, with the events that came with it
abbrev pub reply_text : Reply → List Event → List ℕ
reply_text (Claimed lo hi) events = codes "claimed " ++ decimal lo ++ codes " " ++ decimal hi
reply_text Written events = codes "written"
reply_text Published events = codes "published"
reply_text (Batch first count end) events = codes "batch " ++ decimal first ++ codes " " ++ end_text end ++ flat_map (λ e. codes " " ++ event_text e) events
reply_text Drained events = codes "drained"
reply_text Gating events = codes "gating"
reply_text Idle events = codes "idle"
reply_text Completed events = codes "completed"
reply_text Halting events = codes "halting"
reply_text Retired events = codes "retired"
reply_text (Refused refusal) events = codes "refused " ++ decimal (number_of refusal) ++ codes " " ++ name_of refusal

abbrev pub line_of : Reply → List Event → Line
line_of reply events = reply_text reply events ++ codes "\n"
