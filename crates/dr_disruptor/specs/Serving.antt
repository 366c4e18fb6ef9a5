-- What a handler's worker promises, and what workers gave back.
use Rattle.std.specs.List.{filter}
use Rattle.std.specs.Prelude.{◌≡◌, ◌↔◌, ℕ, ◌+◌, ◌-◌, ◌<◌, min, Bool, IsTrue, true, false, List, [], ◌∷◌, flat_map, length, map, Some, All}
use mathlib.Core.Option.{some}
use lib.ListN.{get_elem?}
use Rattle.std.specs.declared.thread.PromisedHandle.{PromisedHandle}
use Rattle.dr_meaning.specs.declared.command.Polled.{Polled}
use Rattle.dr_meaning.specs.declared.command.Polled.TheVariants.{Batch}
use Rattle.dr_meaning.specs.Calls.Calling.{CallsLead, CompletesUpTo, InPlaceCall, Polls}
use Rattle.dr_meaning.specs.Calls.Ends.{Received}
use Rattle.dr_meaning.specs.Calls.Handling.{Relation}
use Rattle.dr_workers.specs.Meaning.Work.{Dealt, Works}
use Rattle.dr_meaning.specs.Calls.InPlaceOutlets.{SawMore}
use Rattle.dr_runs.specs.Runs.{IsBeginning}
use Rattle.dr_disruptor.specs.declared.served.Served.{Served}
use Rattle.dr_disruptor.specs.declared.served.ServesPromise.{ServesPromise}

-- a batch of a poll with so much room: it has all that was offered, as far as there was room, and its last event is marked if and only if no more was; and this is so of how many events were offered in all
abbrev pub IsPolled : {E : Type 0} → ℕ → (ℕ → Type 0) → Dealt E → Type 0
IsPolled room Are batch =
    (offered : ℕ) × Are offered × (length batch.events ≡ min (offered - batch.first) room) × (IsTrue batch.end ↔ (batch.first + length batch.events ≡ offered))

-- a batch has events, and its last one is marked
abbrev pub IsMarked : {E : Type 0} → Dealt E → Type 0
IsMarked batch = (0 < length batch.events) × (batch.end ≡ true)

-- what a worker calls where a poll with so much room is answered so: a batch is completed before the next poll
abbrev pub calls_at : ℕ → Polled → List InPlaceCall
calls_at room (Batch first count end) = Polls room (Batch first count end) ∷ CompletesUpTo (first + count) ∷ []
calls_at room other = Polls room other ∷ []

abbrev pub is_batch : Polled → Bool
is_batch (Batch first count end) = true
is_batch other = false

abbrev pub answer_of : {E : Type 0} → Dealt E → Polled
answer_of batch = Batch batch.first (length batch.events) batch.end

-- a worker polled with so much room, was given these batches, and completed each of them once, before it polled for the next
pub record TakesInTurn {O E : Type 0} (does : O → InPlaceCall → O → Type 0) (room : ℕ) (batches : List (Dealt E)) (old new : O) : Type 0 where
  pub answers : List Polled
  pub calls : CallsLead does old (flat_map (calls_at room) answers) new
  pub given : filter is_batch answers ≡ map answer_of batches

-- all that an end handed out is completed
abbrev pub IsIdle : {E : Type 0} → Received E → Type 0
IsIdle r = r.completed ≡ length r.events

-- a handler was shown exactly what its end handed out, batch by batch, in polls with so much room, and all of it is completed
pub record Shows {O A K E : Type 0} (kept : O → K) (received : O → Received E) (saw : O → ℕ → Type 0) (does : O → InPlaceCall → O → Type 0) (goes : Relation E A) (room : ℕ) (before after : A) (old new : O) : Type 0 where
  pub place : kept new ≡ kept old
  pub batches : List (Dealt E)
  pub works : Works goes before after (Some (received old)) (Some (received new)) batches
  pub turns : TakesInTurn does room batches old new
  pub saw_more : SawMore (saw old) (saw new)
  pub polled : All (IsPolled room (saw new)) batches
  pub idle : IsIdle (received new)

-- so it is of what a worker gave back, and its end was told that the exchange drained
pub record Serving {O A K E : Type 0} (kept : O → K) (received : O → Received E) (told : O → Bool) (saw : O → ℕ → Type 0) (does : O → InPlaceCall → O → Type 0) (goes : Relation E A) (room : ℕ)
    (start : A) (given : O) (back : Served O A) : Type 0 where
  pub shows : Shows kept received saw does goes room start back.handler given back.outlet
  pub drained : told back.outlet ≡ true

-- so it is of each of some ends and handlers at their places
pub record AreServed {O A K E : Type 0} (kept : O → K) (received : O → Received E) (told : O → Bool) (saw : O → ℕ → Type 0) (does : O → InPlaceCall → O → Type 0) (goes : Relation E A) (room : ℕ)
    (ends : List O) (starts : List A) (served : List (Served O A)) : Type 0 where
  pub many : length served ≡ length ends
  pub handlers : length served ≡ length starts
  pub each : (h : ℕ) (back : Served O A) → get_elem? served h ≡ some back
      → (given : O) × (start : A) × (get_elem? ends h ≡ some given) × (get_elem? starts h ≡ some start)
      × Serving kept received told saw does goes room start given back

-- each of some ends served the handler at its place, and both came back there
pub record CameBackServed {O A K E : Type 0} (kept : O → K) (received : O → Received E) (told : O → Bool) (saw : O → ℕ → Type 0) (does : O → InPlaceCall → O → Type 0) (goes : Relation E A) (room : ℕ)
    (ends : List O) (starts : List A) (outlets : List O) (handlers : List A) : Type 0 where
  pub served : List (Served O A)
  pub are : AreServed kept received told saw does goes room ends starts served
  pub ends_back : outlets ≡ map (λ s. s.outlet) served
  pub handlers_back : handlers ≡ map (λ s. s.handler) served

-- a handler's thread
abbrev pub Worker : Type 0 → Type 0 → Type 0
Worker O A = PromisedHandle (Served O A) (ServesPromise O A)

-- the end that it was given, and the handler
abbrev pub given_end : {O A : Type 0} → Worker O A → O
given_end w = w.promise.end.value

abbrev pub given_handler : {O A : Type 0} → Worker O A → A
given_handler w = w.promise.start.value

-- they have the first of some ends and handlers, in order
abbrev pub HaveFirst : {O A : Type 0} → List O → List A → List (Worker O A) → Type 0
HaveFirst ends handlers workers = IsBeginning (map given_end workers) ends × IsBeginning (map given_handler workers) handlers

-- each polls with so much room
abbrev pub AreInBatches : {O A : Type 0} → ℕ → List (Worker O A) → Type 0
AreInBatches room workers = All (λ w. w.promise.batch ≡ room) workers

-- each worker gave back what it promised, in their order
pub record GaveBack {O A K E : Type 0} (kept : O → K) (received : O → Received E) (told : O → Bool) (saw : O → ℕ → Type 0) (does : O → InPlaceCall → O → Type 0) (goes : Relation E A)
    (workers : List (Worker O A)) (served : List (Served O A)) : Type 0 where
  pub many : length served ≡ length workers
  pub each : (h : ℕ) (back : Served O A) → get_elem? served h ≡ some back
      → (w : Worker O A) × (get_elem? workers h ≡ some w) × Serving kept received told saw does goes w.promise.batch (given_handler w) (given_end w) back
