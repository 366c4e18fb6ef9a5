-- What workers called of their ends, and how they came to their answers.
use Rattle.std.specs.Prelude.{◌≡◌, ◌≢◌, ◌⊎◌, ℕ, ◌+◌, ◌<◌, min, Bool, List, [], ◌∷◌, ◌++◌, length, take, drop, slice_get, Option, None, Some, Ok, Err}
use Rattle.dr_meaning.specs.declared.command.Claimed.{Claimed}
use Rattle.dr_meaning.specs.declared.command.Polled.TheVariants.{Batch, Drained}
use Rattle.dr_meaning.specs.declared.ends.Trouble.{Trouble}
use Rattle.dr_meaning.specs.declared.ends.Trouble.TheVariants.{Refused, Memory}
use Rattle.dr_meaning.specs.declared.refusal.Refusal.TheVariants.{NoRoom}
use Rattle.dr_meaning.specs.Calls.Calling.{InletCall, OutletCall, TriesClaim, WritesOne, WritesMany, PublishesStretch, PollsInto, CompletesBelow}
use Rattle.dr_meaning.specs.Calls.Ends.{Received}
use Rattle.dr_meaning.specs.Calls.Handling.{Relation}
use Rattle.dr_workers.specs.declared.fault.WorkFault.{WorkFault}
use Rattle.dr_workers.specs.declared.producer.Produced.{Produced}
use Rattle.dr_workers.specs.Calls.Stops.{Stops, fault_at_end, fault_in_trouble}
use Rattle.dr_workers.specs.Meaning.Work.{AreCut, CompletedBelow, IsSent, Part, Works, accepted_in, advances_in, batches_in, claims_in}
use Rattle.dr_workers.specs.Meaning.Work.{each_completed, writing_of}

-- the last call is such a one
abbrev pub EndsIn : {C : Type 0} → (C → Type 0) → List C → Type 0
EndsIn IsSuch [] = ⊥
EndsIn IsSuch (call ∷ []) = IsSuch call
EndsIn IsSuch (call ∷ next ∷ calls) = EndsIn IsSuch (next ∷ calls)

-- The handler's side.

-- an end is told that the exchange drained
abbrev pub IsTold : {E : Type 0} → OutletCall E → Type 0
IsTold (PollsInto before after (Ok Drained)) = Unit {0}
IsTold other = ⊥

-- a call is in trouble
abbrev pub IsInTrouble : {E : Type 0} → Trouble → OutletCall E → Type 0
IsInTrouble trouble (PollsInto before after (Err fault)) = fault ≡ trouble
IsInTrouble trouble (CompletesBelow upto (Err fault)) = fault ≡ trouble
IsInTrouble trouble other = ⊥

-- a handler's worker ends once its end is told that the exchange drained, or in the trouble of a call
abbrev pub ConsumerEnds : {E : Type 0} → Bool → List (OutletCall E) → Option WorkFault → Type 0
ConsumerEnds stopped calls answer =
    (EndsIn IsTold calls × (answer ≡ fault_at_end stopped))
    ⊎ ((trouble : Trouble) × EndsIn (IsInTrouble trouble) calls × (answer ≡ Some (fault_in_trouble stopped trouble)))

-- the last call is a completion in trouble
abbrev pub LeavesOpen : {E : Type 0} → ℕ → OutletCall E → Type 0
LeavesOpen upto (CompletesBelow n (Err trouble)) = n ≡ upto
LeavesOpen upto other = ⊥

-- each batch that these calls handed out is completed before the next one, but for the last where its completion is in trouble
abbrev pub AreCompleted : {E : Type 0} → List (OutletCall E) → Type 0
AreCompleted calls =
    (advances_in calls ≡ each_completed (batches_in calls))
    ⊎ ((upto : ℕ) × EndsIn (LeavesOpen upto) calls × (advances_in calls ++ CompletedBelow upto ∷ [] ≡ each_completed (batches_in calls)))

-- what a handler's worker is to call next: a poll, the completion of all events below a sequence, or nothing
pub data Due : Type 0 where
  ToPoll : Due
  ToComplete : ℕ → Due
  NoCall : Due

-- what is due after a call: a batch is completed, and then polled for the next one; where nothing came, or memory ran out, the same is called again; and nothing once the end is told that the exchange drained, or refuses a call
abbrev pub due_after : {E : Type 0} → Due → OutletCall E → Due
due_after due (PollsInto before after (Ok (Batch first count end))) = ToComplete (first + count)
due_after due (PollsInto before after (Ok Drained)) = NoCall
due_after due (PollsInto before after (Err (Refused refusal))) = NoCall
due_after due (CompletesBelow upto (Ok done)) = ToPoll
due_after due (CompletesBelow upto (Err (Refused refusal))) = NoCall
due_after due other = due

-- the next call: a poll with so much room, or the completion of just what is due
abbrev pub IsNextCall : {E : Type 0} → ℕ → Due → OutletCall E → Type 0
IsNextCall room ToPoll (PollsInto before after answer) = (length before ≡ room) × (length after ≡ room)
IsNextCall room (ToComplete end) (CompletesBelow upto answer) = upto ≡ end
IsNextCall room due other = ⊥

-- poll after poll, each with so much room, each batch is completed before the next poll, and the call is the last at which the work ends
abbrev pub InTurn : {E : Type 0} → ℕ → Due → List (OutletCall E) → Type 0
InTurn room due [] = Unit {0}
InTurn room due (call ∷ calls) = IsNextCall room due call × InTurn room (due_after due call) calls

-- a handler was shown the batches that these calls handed out to a buffer of so much room, and its worker came to its gate with each of them
pub record Serves {E A : Type 0} (room : ℕ) (goes : Relation E A) (before after : A) (old new : Option (Received E)) (may_stop must_stop : ℕ → Type 0) (answer : Option WorkFault) (calls : List (OutletCall E)) : Type 0 where
  pub works : Works goes before after old new (batches_in calls)
  pub gate : Stops may_stop must_stop (length (batches_in calls)) (λ stopped. ConsumerEnds stopped calls answer)
  pub completes : AreCompleted calls
  pub order : InTurn room ToPoll calls

-- The producer's side.

-- a refusal, and not a lack of memory
abbrev pub IsRefusal : Trouble → Type 0
IsRefusal (Refused refusal) = Unit {0}
IsRefusal Memory = ⊥

-- the claim of so many sequences is in this trouble, which is more than a lack of room
abbrev pub ClaimFails : {E : Type 0} → ℕ → Trouble → InletCall E → Type 0
ClaimFails n trouble (TriesClaim m (Err fault)) = (m ≡ n) × (fault ≡ trouble) × (trouble ≢ Refused NoRoom)
ClaimFails n trouble other = ⊥

-- one of the writes of some events to the sequences from lo on is refused
abbrev pub WriteFails : {E : Type 0} → ℕ → List E → Trouble → InletCall E → Type 0
WriteFails lo events trouble (WritesOne s event (Err fault)) = (k : ℕ) × (slice_get events k ≡ Some event) × (s ≡ lo + k) × (fault ≡ trouble) × IsRefusal trouble
WriteFails lo events trouble (WritesMany s some wrote) = (k : ℕ) × (some ≡ drop k events) × (s ≡ lo + k) × (wrote.trouble ≡ Some trouble) × IsRefusal trouble
WriteFails lo events trouble other = ⊥

-- the publication of a stretch is refused
abbrev pub PublicationFails : {E : Type 0} → Claimed → Trouble → InletCall E → Type 0
PublicationFails stretch trouble (PublishesStretch lo hi (Err fault)) = (lo ≡ stretch.lo) × (hi ≡ stretch.hi) × (fault ≡ trouble) × IsRefusal trouble
PublicationFails stretch trouble other = ⊥

-- one of the writes of a part, or its publication, is refused
abbrev pub PartFails : {E : Type 0} → Part E → Trouble → InletCall E → Type 0
PartFails part trouble call = WriteFails part.stretch.lo part.events trouble call ⊎ PublicationFails part.stretch trouble call

-- the last of what was accepted of these calls is the claim of a part, and the first of its writes
abbrev pub IsOpen : {E : Type 0} → Part E → List (InletCall E) → Type 0
IsOpen {E} part calls = (before : List (InletCall E)) × (k : ℕ) × (accepted_in calls ≡ before ++ take (k + 1) (writing_of part))

-- a producer's worker gives up while events of its script are left: the claim of the next part is in trouble or, once that is claimed, one of its writes or its publication is refused
abbrev pub GivesUp : {E : Type 0} → ℕ → List E → Trouble → List (InletCall E) → Type 0
GivesUp {E} cut rest trouble calls =
    (0 < length rest)
    × (EndsIn (ClaimFails (min (length rest) cut) trouble) calls
    ⊎ ((part : Part E) × (part.events ≡ take (min (length rest) cut) rest) × IsOpen part calls × EndsIn (PartFails part trouble) calls))

-- a producer's worker ends once all is sent, or in the trouble of a call
abbrev pub ProducerEnds : {E : Type 0} → ℕ → List E → Bool → List (InletCall E) → Produced → Type 0
ProducerEnds cut script stopped calls produced =
    ((produced.sent ≡ length script) × (produced.fault ≡ fault_at_end stopped))
    ⊎ ((trouble : Trouble) × GivesUp cut (drop produced.sent script) trouble calls × (produced.fault ≡ Some (fault_in_trouble stopped trouble)))

-- what a producer's worker is to call next: the claim of a part of what is left of its script; for a claimed stretch the writes of some events to its sequences from s on, then its publication, and then what is left of the script; or nothing
pub data Task (E : Type 0) : Type 0 where
  ToClaim : List E → Task E
  ToSend : Claimed → ℕ → List E → List E → Task E
  Ended : Task E

-- the next call: a claim as long as the cut allows; a write of the next event, or one of all that are left; and the stretch's publication once none is
abbrev pub IsNextStep : {E : Type 0} → ℕ → Task E → InletCall E → Type 0
IsNextStep cut (ToClaim rest) (TriesClaim n answer) = (0 < length rest) × (n ≡ min (length rest) cut)
IsNextStep cut (ToSend stretch s events rest) (WritesOne at event answer) = (slice_get events 0 ≡ Some event) × (at ≡ s)
IsNextStep cut (ToSend stretch s events rest) (WritesMany lo some wrote) = (0 < length events) × (some ≡ events) × (lo ≡ s)
IsNextStep cut (ToSend stretch s events rest) (PublishesStretch lo hi answer) = (events ≡ []) × (lo ≡ stretch.lo) × (hi ≡ stretch.hi)
IsNextStep cut task other = ⊥

-- writes that came so far go on, also where memory ran out; a refused one ends the work
abbrev pub sent_on : {E : Type 0} → Claimed → ℕ → List E → List E → Option Trouble → Task E
sent_on stretch s events rest None = ToSend stretch s events rest
sent_on stretch s events rest (Some Memory) = ToSend stretch s events rest
sent_on stretch s events rest (Some (Refused refusal)) = Ended

-- what is to be called after a call: the same again where a claim finds no room, or where memory runs out while a claim is open; nothing after any other trouble
abbrev pub task_after : {E : Type 0} → Task E → InletCall E → Task E
task_after (ToClaim rest) (TriesClaim n (Ok stretch)) = ToSend stretch stretch.lo (take n rest) (drop n rest)
task_after (ToClaim rest) (TriesClaim n (Err (Refused NoRoom))) = ToClaim rest
task_after (ToSend stretch s events rest) (WritesOne at event (Ok done)) = ToSend stretch (s + 1) (drop 1 events) rest
task_after (ToSend stretch s events rest) (WritesOne at event (Err Memory)) = ToSend stretch s events rest
task_after (ToSend stretch s events rest) (WritesMany lo some wrote) = sent_on stretch (s + wrote.count) (drop wrote.count events) rest wrote.trouble
task_after (ToSend stretch s events rest) (PublishesStretch lo hi (Ok done)) = ToClaim rest
task_after (ToSend stretch s events rest) (PublishesStretch lo hi (Err Memory)) = ToSend stretch s events rest
task_after task other = Ended

-- each call is the next one, so a call in trouble is made again next, or is the last
abbrev pub InOrder : {E : Type 0} → ℕ → Task E → List (InletCall E) → Type 0
InOrder cut task [] = Unit {0}
InOrder cut task (call ∷ calls) = IsNextStep cut task call × InOrder cut (task_after task call) calls

-- these calls claimed parts of a script, each as long as the cut allows, a worker came to its gate with each of them, and sent as much of the script as it says
pub record Sends {E : Type 0} (cut : ℕ) (script : List E) (may_stop must_stop : ℕ → Type 0) (produced : Produced) (calls : List (InletCall E)) : Type 0 where
  pub cuts : AreCut cut (length script) (claims_in calls)
  pub gate : Stops may_stop must_stop (length (claims_in calls)) (λ stopped. ProducerEnds cut script stopped calls produced)
  pub sends : IsSent script produced.sent (accepted_in calls)
  pub order : InOrder cut (ToClaim script) calls
