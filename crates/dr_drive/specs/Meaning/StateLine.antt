-- The line of a state: how far the exchange is, what a claim would be given, and of each handler what a poll would give it and what it completed.
use Rattle.std.specs.Prelude.{ℕ, ◌-◌, min, if◌then◌else◌, List, [], ◌++◌, flat_map, codes, decimal, slice_index, slice_index_or}
use Rattle.std.specs.List.{range_with_len}
use Rattle.dr_seq.specs.declared.event.Event.{Event}
use Rattle.dr_meaning.specs.Meaning.Machine.{Setup, State, handlers, next, front, gate, available}
use Rattle.dr_files.specs.Lines.{Line}
use Rattle.dr_records.specs.Records.{Field}

-- the most sequences that a claim is given: what the limit leaves, and the slots that hold no event which a final handler has yet to complete; after a halt none
abbrev pub room : Setup → State Event → ℕ
room c m = if m.halted then 0 else min (c.limit - next m) (c.size - (next m - gate c m))

-- how many events a poll gives a handler that asks for all: what its barrier lets through and it did not take; once it is retired none
abbrev pub ready : Setup → State Event → ℕ → ℕ
ready c m h = if m.retired h then 0 else available c m h - slice_index m.taken h

-- a handler by its name, how many events are ready for it, and how many it completed
abbrev pub handler_text : List Field → Setup → State Event → ℕ → List ℕ
handler_text names c m h = codes " " ++ slice_index_or names h [] ++ codes " " ++ decimal (ready c m h) ++ codes " " ++ decimal (slice_index m.completed h)

abbrev pub state_line : List Field → Setup → State Event → Line
state_line names c m =
    codes "state next " ++ decimal (next m) ++ codes " front " ++ decimal (front m) ++ codes " room " ++ decimal (room c m)
    ++ flat_map (handler_text names c m) (range_with_len 0 (handlers c)) ++ codes "\n"
