-- What the page's data has of an exchange and its state: the machine's own numbers and answers.
use Rattle.std.specs.Prelude.{ℕ, ◌-◌, min, Bool, not, ◌==◌, ◌&&◌, ◌||◌, if◌then◌else◌, Option, Some, None, is_some, List, [], ◌++◌, flat_map, length, codes, decimal, slice_index, slice_index_or}
use Rattle.std.specs.List.{range_with_len}
use Rattle.dr_seq.specs.declared.event.Event.{Event}
use Rattle.dr_graph.specs.Meaning.Graph.{is_final_without, upstreams_of}
use Rattle.dr_meaning.specs.declared.command.Command.TheVariants.{Poll}
use Rattle.dr_meaning.specs.declared.command.Reply.{Reply}
use Rattle.dr_meaning.specs.declared.command.Reply.TheVariants as reply
use Rattle.dr_meaning.specs.Meaning.Machine.{Setup, State, front, gate, handlers, is_single, next, producers, step}
use Rattle.dr_records.specs.Records.{Field}
use Rattle.dr_drive.specs.Meaning.Lines.{event_text}
use Rattle.dr_drive.specs.Meaning.StateLine.{ready, room}
use Rattle.dr_show.specs.declared.handlers.PollAnswer.{PollAnswer}
use Rattle.dr_show.specs.declared.handlers.PollAnswer.TheVariants.{Retired, Batch, Drained, Gating, Idle}
use Rattle.dr_show.specs.declared.handlers.HandlerState.{HandlerState}
use Rattle.dr_show.specs.declared.sequences.Sequence.{Sequence}
use Rattle.dr_show.specs.Meaning.Texts.{bool_text, bytes_text, comma_before}

-- a poll's reply in a word. A handler's poll for an event is refused once the handler is retired, and by nothing else.
abbrev pub answer_of : Reply → PollAnswer
answer_of (reply.Batch first count end) = Batch
answer_of reply.Drained = Drained
answer_of reply.Gating = Gating
answer_of reply.Idle = Idle
answer_of other = Retired

-- what the machine answers a poll for an event now
abbrev pub poll_answer : Setup → State Event → ℕ → PollAnswer
poll_answer c m h = answer_of (step c m (Poll h 1)).reply

-- claims wait for a handler that is not retired, and that none follows which is not
abbrev pub gates : Setup → State Event → ℕ → Bool
gates c m h = is_final_without c.upstreams m.retired h

-- a handler now; `holds` tells those of the ones that claims wait for which completed least, whether or not a claim has room
abbrev pub handler_of : Setup → State Event → ℕ → HandlerState
handler_of c m h = record {
  taken = slice_index m.taken h;
  completed = slice_index m.completed h;
  ready = ready c m h;
  poll = poll_answer c m h;
  is_retired = m.retired h;
  gates = gates c m h;
  holds = gates c m h && (slice_index m.completed h == gate c m);
}

abbrev pub answer_word : PollAnswer → List ℕ
answer_word Retired = codes "retired"
answer_word Batch = codes "batch"
answer_word Drained = codes "drained"
answer_word Gating = codes "gating"
answer_word Idle = codes "idle"

abbrev pub handler_object : ℕ → HandlerState → List ℕ
handler_object h it =
    comma_before h ++ codes "{\"taken\":" ++ decimal it.taken ++ codes ",\"completed\":" ++ decimal it.completed ++ codes ",\"ready\":" ++ decimal it.ready
    ++ codes ",\"poll\":\"" ++ answer_word it.poll ++ codes "\",\"retired\":" ++ bool_text it.is_retired
    ++ codes ",\"gates\":" ++ bool_text it.gates ++ codes ",\"holds\":" ++ bool_text it.holds ++ codes "}"

-- a claimed sequence now
abbrev pub sequence_of : State Event → ℕ → Sequence
sequence_of m s = record { producer = slice_index m.owners s; event = m.written s; is_published = m.published s }

-- how far a claimed sequence is
abbrev pub stage_word : Sequence → List ℕ
stage_word it = if it.is_published then codes "published" else if is_some it.event then codes "written" else codes "claimed"

abbrev pub same_test : Bool → Bool → Bool
same_test a b = if a then b else not b

-- two sequences are one producer's, and equally far
abbrev pub are_alike : Sequence → Sequence → Bool
are_alike one other =
    (one.producer == other.producer) && (same_test one.is_published other.is_published && same_test (is_some one.event) (is_some other.event))

-- the first sequence of the last round, of so many claimed
abbrev pub round_from : ℕ → ℕ → ℕ
round_from size claimed = claimed - size

-- the sequences of the last round: the last ones claimed, as many as there are slots
abbrev pub round : ℕ → ℕ → List ℕ
round size claimed = range_with_len (round_from size claimed) (claimed - round_from size claimed)

-- a stretch of sequences that are alike begins with the first of the round, and where one is unlike the one before it
abbrev pub begins : (ℕ → Sequence) → ℕ → ℕ → Bool
begins sequence from s = (s == from) || not (are_alike (sequence (s - 1)) (sequence s))

-- of each stretch its first sequence, the producer, and how far it is
abbrev pub stretch_text : (ℕ → Sequence) → ℕ → ℕ → List ℕ
stretch_text sequence from s =
    if begins sequence from s then
    comma_before (s - from) ++ codes "[" ++ decimal s ++ codes "," ++ decimal (sequence s).producer ++ codes ",\"" ++ stage_word (sequence s) ++ codes "\"]"
    else []

-- of each sequence that is written its event
abbrev pub written_text : ℕ → Option Event → List ℕ
written_text s None = []
written_text s (Some event) = codes " " ++ decimal s ++ codes "=" ++ event_text event

-- a ring of more slots is drawn by its stretches, and no event is told but of the last sequences
abbrev pub most_drawn : ℕ
most_drawn = 64

-- the sequences of the last round
abbrev pub round_text : (ℕ → Sequence) → ℕ → ℕ → List ℕ
round_text sequence size claimed =
    codes ",\"round\":[" ++ flat_map (stretch_text sequence (round_from size claimed)) (round size claimed)
    ++ codes "],\"events\":\"" ++ flat_map (λ s. written_text s (sequence s).event) (round (min size most_drawn) claimed) ++ codes "\""

-- the state
abbrev pub state_text : Setup → State Event → List ℕ
state_text c m =
    codes ",\"next\":" ++ decimal (next m) ++ codes ",\"front\":" ++ decimal (front m) ++ codes ",\"room\":" ++ decimal (room c m)
    ++ codes ",\"halted\":" ++ bool_text m.halted
    ++ codes ",\"handlers\":[" ++ flat_map (λ h. handler_object h (handler_of c m h)) (range_with_len 0 (handlers c)) ++ codes "]"
    ++ round_text (sequence_of m) c.size (next m)

-- a handler's name, and the numbers of its direct upstreams
abbrev pub upstream_text : List ℕ → ℕ → List ℕ
upstream_text ups place = comma_before place ++ decimal (slice_index ups place)

abbrev pub named_object : List Field → List (List ℕ) → ℕ → List ℕ
named_object names graph h =
    comma_before h ++ codes "{\"name\":\"" ++ bytes_text (slice_index_or names h []) ++ codes "\",\"upstreams\":["
    ++ flat_map (upstream_text (upstreams_of graph h)) (range_with_len 0 (length (upstreams_of graph h))) ++ codes "]}"

-- what an exchange is opened with
abbrev pub exchange_text : List Field → Setup → List ℕ
exchange_text names c =
    codes ",\"exchange\":{\"size\":" ++ decimal c.size ++ codes ",\"producers\":" ++ decimal (producers c.mode) ++ codes ",\"single\":" ++ bool_text (is_single c.mode)
    ++ codes ",\"limit\":\"" ++ decimal c.limit ++ codes "\",\"handlers\":[" ++ flat_map (named_object names c.upstreams) (range_with_len 0 (handlers c)) ++ codes "]}"
