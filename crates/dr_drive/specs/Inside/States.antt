-- The line of a state, by what contracts see of a core.
use Rattle.std.specs.Prelude.{ℕ, Bool, if◌then◌else◌, List, [], ◌++◌, flat_map, codes, decimal, slice_index, slice_index_or}
use Rattle.std.specs.List.{range_with_len}
use Rattle.dr_seq.specs.declared.event.Event.{Event}
use Rattle.dr_meaning.specs.Meaning.Machine.{handlers}
use Rattle.dr_core.specs.Calls.CoreView.{CoreView}
use Rattle.dr_drive.specs.Calls.Standing.{ready_in, room_in}

abbrev pub handler_seen : CoreView Event → ℕ → List ℕ
handler_seen v h = codes " " ++ slice_index_or v.names h [] ++ codes " " ++ decimal (ready_in v h) ++ codes " " ++ decimal (slice_index v.completed h)

abbrev pub counts_seen : CoreView Event → List ℕ
counts_seen v = codes "state next " ++ decimal v.next ++ codes " front " ++ decimal v.front ++ codes " room " ++ decimal (room_in v)

abbrev pub state_seen : CoreView Event → List ℕ
state_seen v = counts_seen v ++ flat_map (handler_seen v) (range_with_len 0 (handlers v.setup)) ++ codes "\n"

-- a line, and the state's after it where it is told
abbrev pub with_state : Bool → List ℕ → CoreView Event → List ℕ
with_state states line v = if states then line ++ state_seen v else line
