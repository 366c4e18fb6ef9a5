-- What calls a worker makes of its end at one step of its work.
use Rattle.std.specs.Prelude.{◌≡◌, ◌⊎◌, ℕ, ◌+◌, ◌<◌, min, List, [], ◌∷◌, ◌++◌, length, take, replicate, Option, None, Some, Result, Ok, Err}
use Rattle.std.specs.List.{filter_map}
use Rattle.dr_meaning.specs.declared.command.Claimed.{Claimed}
use Rattle.dr_meaning.specs.declared.ends.Trouble.{Trouble}
use Rattle.dr_meaning.specs.Calls.Calling.{InletCall, OutletCall, TriesClaim, PublishesStretch, each_written}
use Rattle.dr_meaning.specs.Calls.Ends.{Received}
use Rattle.dr_meaning.specs.Calls.Handling.{Relation}
use Rattle.dr_workers.specs.declared.consumer.Progress.{Progress}
use Rattle.dr_workers.specs.declared.consumer.Progress.TheVariants.{Drained, GoesOn}
use Rattle.dr_workers.specs.declared.passages.Passages.{Passages}
use Rattle.dr_workers.specs.Calls.Serving.{AreCompleted, ClaimFails, Due, EndsIn, InOrder, InTurn, IsInTrouble, IsOpen, IsTold, PartFails, Task}
use Rattle.dr_workers.specs.Calls.Serving.{ToClaim, ToPoll, ToSend, WriteFails, due_after, task_after}
use Rattle.dr_workers.specs.Calls.Stops.{Passes}
use Rattle.dr_workers.specs.Meaning.Work.{Part, Works, accepted_in, advances_in, batches_in, claims_in, each_completed, sending_of, writing_of}

-- a call is made again while its answer is one to wait at
abbrev pub Retries : {C : Type 0} → C → C → List C → Type 0
Retries waits answered calls = (times : ℕ) × (calls ≡ replicate times waits ++ answered ∷ [])

-- the accepted calls that write events to the sequences from lo on, all of them or, in trouble, the first
abbrev pub AreEachWritten : {E : Type 0} → ℕ → List E → Result (Unit {0}) Trouble → List (InletCall E) → Type 0
AreEachWritten lo events (Ok done) accepted = accepted ≡ each_written lo events
AreEachWritten lo events (Err trouble) accepted = (k : ℕ) × (accepted ≡ take k (each_written lo events))

-- how many sequences a call tries to claim
abbrev pub tried_of : {E : Type 0} → InletCall E → Option ℕ
tried_of (TriesClaim n answer) = Some n
tried_of other = None

abbrev pub tries_in : {E : Type 0} → List (InletCall E) → List ℕ
tries_in calls = filter_map tried_of calls

-- what a producer's worker is to call after some calls
abbrev pub task_at_end : {E : Type 0} → Task E → List (InletCall E) → Task E
task_at_end task [] = task
task_at_end task (call ∷ calls) = task_at_end (task_after task call) calls

-- many writes, up to one that is refused
pub record WriteCalls {E : Type 0} (lo : ℕ) (events : List E) (result : Result (Unit {0}) Trouble) (calls : List (InletCall E)) : Type 0 where
  pub tries : tries_in calls ≡ []
  pub claims : claims_in calls ≡ []
  pub trouble : (trouble : Trouble) → result ≡ Err trouble → EndsIn (WriteFails lo events trouble) calls
  pub accepted : AreEachWritten lo events result (accepted_in calls)
  pub order : (cut : ℕ) (stretch : Claimed) (rest : List E) → 0 < length events → InOrder cut (ToSend stretch lo events rest) calls
  pub end : (stretch : Claimed) (rest : List E) → result ≡ Ok tt
      → task_at_end (ToSend stretch lo events rest) calls ≡ ToSend stretch (lo + length events) [] rest

-- the accepted calls after a part's claim: its writes and its publication or, in trouble, the first of its writes
abbrev pub AreWrittenOut : {E : Type 0} → Part E → Result (Unit {0}) Trouble → List (InletCall E) → Type 0
AreWrittenOut part (Ok done) accepted = accepted ≡ each_written part.stretch.lo part.events ++ PublishesStretch part.stretch.lo part.stretch.hi (Ok tt) ∷ []
AreWrittenOut part (Err trouble) accepted = (k : ℕ) × (accepted ≡ take k (each_written part.stretch.lo part.events))

-- a part's writes and its publication, up to one that is refused
pub record AfterClaim {E : Type 0} (part : Part E) (result : Result (Unit {0}) Trouble) (calls : List (InletCall E)) : Type 0 where
  pub claims : claims_in calls ≡ []
  pub trouble : (trouble : Trouble) → result ≡ Err trouble → EndsIn (PartFails part trouble) calls
  pub accepted : AreWrittenOut part result (accepted_in calls)
  pub order : (cut : ℕ) (rest : List E) → 0 < length part.events → InOrder cut (ToSend part.stretch part.stretch.lo part.events rest) calls
  pub end : (rest : List E) → result ≡ Ok tt → task_at_end (ToSend part.stretch part.stretch.lo part.events rest) calls ≡ ToClaim rest

-- the claim for some events is in trouble or, once it is accepted, one of their writes or their publication is
abbrev pub IsInTroubleWith : {E : Type 0} → List E → Trouble → List (InletCall E) → Type 0
IsInTroubleWith events trouble calls =
    EndsIn (ClaimFails (length events) trouble) calls
    ⊎ ((stretch : Claimed) × IsOpen (record { stretch = stretch; events = events }) calls × EndsIn (PartFails (record { stretch = stretch; events = events }) trouble) calls)

-- what is accepted of some events' claim, writes and publication: all or, in trouble, the first
abbrev pub IsPartSent : {E : Type 0} → List E → Result (Unit {0}) Trouble → List (InletCall E) → Type 0
IsPartSent events (Ok done) accepted = (stretch : Claimed) × (accepted ≡ sending_of (record { stretch = stretch; events = events }))
IsPartSent events (Err trouble) accepted =
    (accepted ≡ []) ⊎ ((stretch : Claimed) × (k : ℕ) × (0 < length events) × (accepted ≡ take k (writing_of (record { stretch = stretch; events = events }))))

-- a claim with its writes and its publication, and the worker's passage of its gate with it
pub record SendsPart {E : Type 0} (events : List E) (may_stop must_stop : ℕ → ℕ → Type 0) (passages passages' : Passages) (result : Result (Unit {0}) Trouble) (calls : List (InletCall E)) : Type 0 where
  pub claims : (claims_in calls ≡ length events ∷ []) ⊎ ((claims_in calls ≡ []) × ((trouble : Trouble) × (result ≡ Err trouble)))
  pub passes : Passes may_stop must_stop (length (claims_in calls)) passages passages'
  pub trouble : (trouble : Trouble) → result ≡ Err trouble → IsInTroubleWith events trouble calls
  pub accepted : IsPartSent events result (accepted_in calls)
  pub order : (cut : ℕ) (rest : List E) → 0 < length events → length events ≡ min (length (events ++ rest)) cut → InOrder cut (ToClaim (events ++ rest)) calls
  pub end : (rest : List E) → result ≡ Ok tt → task_at_end (ToClaim (events ++ rest)) calls ≡ ToClaim rest

-- what a handler's worker is to call after some calls
abbrev pub due_at_end : {E : Type 0} → Due → List (OutletCall E) → Due
due_at_end due [] = due
due_at_end due (call ∷ calls) = due_at_end (due_after due call) calls

-- a poll and, for a batch, the worker's passage of its gate and the completion
pub record TakesBatch {E A : Type 0} (room : ℕ) (goes : Relation E A) (before after : A) (old new : Option (Received E)) (may_stop must_stop : ℕ → ℕ → Type 0) (passages passages' : Passages) (result : Result Progress Trouble) (calls : List (OutletCall E)) : Type 0 where
  pub works : Works goes before after old new (batches_in calls)
  pub passes : Passes may_stop must_stop (length (batches_in calls)) passages passages'
  pub told : result ≡ Ok Drained → EndsIn IsTold calls
  pub trouble : (trouble : Trouble) → result ≡ Err trouble → EndsIn (IsInTrouble trouble) calls
  pub completes : AreCompleted calls
  pub whole : (progress : Progress) → result ≡ Ok progress → advances_in calls ≡ each_completed (batches_in calls)
  pub order : InTurn room ToPoll calls
  pub closed : result ≡ Ok GoesOn → due_at_end ToPoll calls ≡ ToPoll
