-- Operations as they come: what a stream of an event file has given, and has yet to give.
use Rattle.std.specs.Prelude.{◌≡◌, ℕ, ◌+◌, not, if◌then◌else◌, List, [], ◌++◌, map, Option, Some, None, Bool, true, false, IsSomeAnd, ◌∷◌, Result, Ok, Err}
use Rattle.std.specs.List.{filter_map, list_all, position_or_len, take_while}
use Rattle.dr_seq.specs.declared.event.Event.{Event}
use Rattle.dr_files.specs.declared.fault.FileFault.{FileFault}
use Rattle.dr_files.specs.declared.fault.FileFault.TheVariants as file
use Rattle.dr_records.specs.Records.{Record}
use Rattle.dr_records.specs.Stream.{records_to_come}
use Rattle.dr_operations.specs.EventFile.{is_operation, operation_in}
use Rattle.dr_operations.specs.Operations.{event_for}
use Rattle.dr_operations.specs.declared.cause.Cause.{Cause}
use Rattle.dr_operations.specs.declared.cause.Cause.TheVariants.{BadRecord}
use Rattle.dr_operations.specs.declared.event_stream.EventStream.{EventStream}

-- the events of the records before the first that is no operation, and the number of that one, if there is one
pub record Arrival : Type 0 where
  pub events : List Event
  pub bad : Option ℕ

-- what records give, the first of them having this number
unfoldable pub arrival_from : ℕ → List Record → Arrival
arrival_from k records = record {
  events = map event_for (filter_map operation_in (take_while is_operation records));
  bad = if list_all is_operation records then None else Some (position_or_len (λ r. not (is_operation r)) records + k);
}

-- what the records of an event file say: all their events, or the number of the first bad one
abbrev pub read_with : List Event → Option ℕ → Result (List Event) ℕ
read_with events None = Ok events
read_with events (Some k) = Err k

abbrev pub read_of : Arrival → Result (List Event) ℕ
read_of arrival = read_with arrival.events arrival.bad

-- what comes behind events that were given before
abbrev pub behind : List Event → Arrival → Arrival
behind before arrival = record { events = before ++ arrival.events; bad = arrival.bad }

-- what a stream has yet to give, if these are the bytes that still come
abbrev pub to_come : EventStream → List ℕ → Arrival
to_come stream more = arrival_from (stream.count + 1) (records_to_come stream.records more)

-- a bad record ends what comes, and all before it was given; where memory ran out, the first events were given
abbrev pub Stops : FileFault Cause → Arrival → List Event → Type 0
Stops (file.Input k cause) arrival given = (cause ≡ BadRecord) × (arrival ≡ record { events = given; bad = Some k })
Stops file.Memory arrival given = (later : List Event) × (arrival.events ≡ given ++ later)
Stops other arrival given = ⊥

-- Bytes that came added to the events from before: what is given now, and then what is yet to come, is what was to come.
abbrev pub Feeds : {A : Type 0} → Result A (FileFault Cause) → EventStream → EventStream → List ℕ → List Event → List Event → Type 0
Feeds (Ok done) old new bytes before given = (more : List ℕ) → behind before (to_come old (bytes ++ more)) ≡ behind given (to_come new more)
Feeds (Err e) old new bytes before given = (more : List ℕ) → Stops e (behind before (to_come old (bytes ++ more))) given

-- the same at the end, where no byte comes any more
abbrev pub Finishes : {A : Type 0} → Result A (FileFault Cause) → EventStream → List Event → List Event → Type 0
Finishes (Ok done) old before given = behind before (to_come old []) ≡ record { events = given; bad = None }
Finishes (Err e) old before given = Stops e (behind before (to_come old [])) given

-- a read from a reader whose bytes are known: some came, it is at its end, or it failed and nothing came
abbrev pub ReadsOn : Result Bool (FileFault Cause) → EventStream → EventStream → Option (List ℕ) → Option (List ℕ) → List Event → List Event → Type 0
ReadsOn result old new None left before given = Unit {0}
ReadsOn (Ok true) old new (Some bytes) None before given = ⊥
ReadsOn (Ok true) old new (Some bytes) (Some left) before given = behind before (to_come old bytes) ≡ behind given (to_come new left)
ReadsOn (Ok false) old new (Some bytes) left before given = behind before (to_come old bytes) ≡ record { events = given; bad = None }
ReadsOn (Err file.Read) old new (Some bytes) left before given = (new ≡ old) × (left ≡ Some bytes) × (given ≡ before)
ReadsOn (Err e) old new (Some bytes) left before given = Stops e (behind before (to_come old bytes)) given

-- the event of a record that is an operation joins those from before; of the k-th that is none is told, and nothing changes
abbrev pub Pushes : {A : Type 0} → Result A (FileFault Cause) → ℕ → Record → List Event → List Event → Type 0
Pushes (Ok done) k row before given = IsSomeAnd (operation_in row) (λ o. given ≡ before ++ event_for o ∷ [])
Pushes (Err (file.Input n cause)) k row before given = (operation_in row ≡ None) × (n ≡ k) × (cause ≡ BadRecord) × (given ≡ before)
Pushes (Err file.Memory) k row before given = given ≡ before
Pushes (Err other) k row before given = ⊥
