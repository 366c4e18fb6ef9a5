-- Operations as the event file has them.
use Rattle.std.specs.Prelude.{◌≡◌, ℕ, List, [], ◌∷◌, ◌++◌, codes, flat_map}
use Rattle.dr_seq.specs.declared.event.Event.{Event}
use Rattle.dr_operations.specs.EventFile.{IsOfFile}
use Rattle.dr_operations.specs.Operations.{event_for, operation_of, operation_text}

-- the record of an event's operation, with its line's end
abbrev pub event_line : Event → List ℕ
event_line e = operation_text (operation_of e) ++ codes "\n"

-- the event file of events
abbrev pub file_of : List Event → List ℕ
file_of events = flat_map event_line events

-- an event that an event file can have
abbrev pub IsEventOfFile : Event → Type 0
IsEventOfFile e = IsOfFile (operation_of e) × (event_for (operation_of e) ≡ e)

abbrev pub AreOfFile : List Event → Type 0
AreOfFile [] = Unit {0}
AreOfFile (e ∷ events) = IsEventOfFile e × AreOfFile events
