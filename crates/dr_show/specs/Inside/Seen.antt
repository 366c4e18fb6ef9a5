-- What the page's data has of a state, by what contracts see of a core, and slots that tell of its last sequences.
use Rattle.std.specs.Prelude.{ℕ, ◌-◌, Bool, ◌==◌, ◌&&◌, nat_lt, if◌then◌else◌, List, ◌++◌, flat_map, codes, decimal, slice_index}
use Rattle.std.specs.List.{range_with_len}
use Rattle.dr_seq.specs.declared.event.Event.{Event}
use Rattle.dr_graph.specs.Meaning.Graph.{is_final_without}
use Rattle.dr_meaning.specs.Meaning.Machine.{handlers, is_single}
use Rattle.dr_core.specs.Calls.CoreView.{CoreView, gate_of, retired_in}
use Rattle.dr_drive.specs.Calls.Standing.{ready_in, room_in}
use Rattle.dr_show.specs.declared.handlers.PollAnswer.{PollAnswer}
use Rattle.dr_show.specs.declared.handlers.PollAnswer.TheVariants.{Retired, Batch, Drained, Gating, Idle}
use Rattle.dr_show.specs.declared.handlers.HandlerState.{HandlerState}
use Rattle.dr_show.specs.declared.sequences.Sequence.{Sequence}
use Rattle.dr_show.specs.Meaning.Texts.{bool_text}
use Rattle.dr_show.specs.Meaning.StateText.{handler_object, round_text, stretch_text, written_text}
use Rattle.dr_show.specs.Inside.Sequences.{said_of}

abbrev pub cursor_in : CoreView Event → ℕ
cursor_in v = if is_single v.setup.mode then v.front else v.next

abbrev pub poll_answer_in : CoreView Event → ℕ → PollAnswer
poll_answer_in v h =
    if retired_in v h then Retired
    else if nat_lt 0 (ready_in v h) then Batch
    else if v.halted && (slice_index v.taken h == v.next) then Drained
    else if nat_lt (slice_index v.taken h) (cursor_in v) then Gating
    else Idle

abbrev pub gates_in : CoreView Event → ℕ → Bool
gates_in v h = is_final_without v.setup.upstreams (retired_in v) h

abbrev pub handler_in : CoreView Event → ℕ → HandlerState
handler_in v h = record {
  taken = slice_index v.taken h;
  completed = slice_index v.completed h;
  ready = ready_in v h;
  poll = poll_answer_in v h;
  is_retired = retired_in v h;
  gates = gates_in v h;
  holds = gates_in v h && (slice_index v.completed h == gate_of v);
}

abbrev pub handler_seen : CoreView Event → ℕ → List ℕ
handler_seen v h = handler_object h (handler_in v h)

abbrev pub state_seen : CoreView Event → List Sequence → List ℕ
state_seen v slots =
    codes ",\"next\":" ++ decimal v.next ++ codes ",\"front\":" ++ decimal v.front ++ codes ",\"room\":" ++ decimal (room_in v)
    ++ codes ",\"halted\":" ++ bool_text v.halted
    ++ codes ",\"handlers\":[" ++ flat_map (handler_seen v) (range_with_len 0 (handlers v.setup)) ++ codes "]"
    ++ round_text (said_of slots) v.setup.size v.next

-- the stretches of the sequences from one up to another
abbrev pub stretches_text : (ℕ → Sequence) → ℕ → ℕ → List ℕ
stretches_text sequence from upto = flat_map (stretch_text sequence from) (range_with_len from (upto - from))

-- and their events
abbrev pub events_text : (ℕ → Sequence) → ℕ → ℕ → List ℕ
events_text sequence from upto = flat_map (λ s. written_text s (sequence s).event) (range_with_len from (upto - from))
