-- What workers do at their ends.
use Rattle.std.specs.Prelude.{◌≡◌, ℕ, ◌+◌, ◌-◌, ◌<◌, ◌⊎◌, min, Bool, List, [], ◌∷◌, ◌++◌, length, map, flat_map, take, drop, replicate, Option, None, Some, Ok}
use Rattle.std.specs.List.{filter_map}
use Rattle.dr_meaning.specs.declared.command.Claimed.{Claimed}
use Rattle.dr_meaning.specs.declared.command.Polled.TheVariants.{Batch}
use Rattle.dr_meaning.specs.Calls.Calling.{InletCall, OutletCall, TriesClaim, WritesOne, WritesMany, PublishesStretch, PollsInto, CompletesBelow, each_written}
use Rattle.dr_meaning.specs.Calls.Ends.{Sent, Received, WhereShown}
use Rattle.dr_meaning.specs.Calls.Handling.{GoesThrough, Relation, Showing, showings}

-- The handler's side.

-- a batch that an outlet handed out
pub record Dealt (E : Type 0) : Type 0 where
  pub first : ℕ
  pub events : List E
  pub end : Bool

-- the batch that a call handed out
abbrev pub batch_of : {E : Type 0} → OutletCall E → Option (Dealt E)
batch_of (PollsInto before after (Ok (Batch first count end))) = Some (record { first = first; events = take count after; end = end })
batch_of other = None

-- the batches that calls handed out
abbrev pub batches_in : {E : Type 0} → List (OutletCall E) → List (Dealt E)
batches_in calls = filter_map batch_of calls

-- what a handler is shown of batches
abbrev pub shown_of : {E : Type 0} → List (Dealt E) → List (Showing E)
shown_of [] = []
shown_of (b ∷ batches) = showings b.events b.first b.end ++ shown_of batches

-- how a call takes a handler on: a batch is handed out, or all events below a sequence are completed
pub data Advance (E : Type 0) : Type 0 where
  HandedOut : Dealt E → Advance E
  CompletedBelow : ℕ → Advance E

abbrev pub advance_of : {E : Type 0} → OutletCall E → Option (Advance E)
advance_of (PollsInto before after (Ok (Batch first count end))) = Some (HandedOut (record { first = first; events = take count after; end = end }))
advance_of (CompletesBelow upto (Ok done)) = Some (CompletedBelow upto)
advance_of other = None

-- what calls handed out and completed, in their order
abbrev pub advances_in : {E : Type 0} → List (OutletCall E) → List (Advance E)
advances_in calls = filter_map advance_of calls

-- each batch is completed, and nothing else, before the next one is handed out
abbrev pub each_completed : {E : Type 0} → List (Dealt E) → List (Advance E)
each_completed [] = []
each_completed (b ∷ batches) = HandedOut b ∷ CompletedBelow (b.first + length b.events) ∷ each_completed batches

-- the events of batches, joined
abbrev pub dealt_events : {E : Type 0} → List (Dealt E) → List E
dealt_events [] = []
dealt_events (b ∷ batches) = b.events ++ dealt_events batches

-- batches that are not empty, each of which begins where the one before ended
abbrev pub FollowFrom : {E : Type 0} → ℕ → List (Dealt E) → Type 0
FollowFrom s [] = Unit {0}
FollowFrom s (b ∷ batches) = (b.first ≡ s) × (0 < length b.events) × FollowFrom (s + length b.events) batches

-- an end handed out these batches
abbrev pub HandsOut : {E : Type 0} → List (Dealt E) → Received E → Received E → Type 0
HandsOut batches old new = (new.events ≡ old.events ++ dealt_events batches) × FollowFrom (length old.events) batches

-- a handler was shown some batches, which are those that its end handed out, where that shows it
pub record Works {E A : Type 0} (goes : Relation E A) (before after : A) (old new : Option (Received E)) (batches : List (Dealt E)) : Type 0 where
  pub through : GoesThrough goes before (shown_of batches) after
  pub handed : WhereShown (HandsOut batches) old new

-- all that an end handed out is completed, or nothing came
abbrev pub IsDone : {E : Type 0} → Received E → Received E → Type 0
IsDone old new = (new.completed ≡ length new.events) ⊎ (new ≡ old)

-- The producer's side.

-- how many sequences a call claimed
abbrev pub claim_of : {E : Type 0} → InletCall E → Option ℕ
claim_of (TriesClaim n (Ok claimed)) = Some n
claim_of other = None

-- the claims among some calls that were accepted
abbrev pub claims_in : {E : Type 0} → List (InletCall E) → List ℕ
claims_in calls = filter_map claim_of calls

-- claims of what is left, but at most of a cut, one after another
abbrev pub AreCut : ℕ → ℕ → List ℕ → Type 0
AreCut cut left [] = Unit {0}
AreCut cut left (n ∷ claims) = (n ≡ min left cut) × AreCut cut (left - n) claims

-- the calls among some that were accepted, each of many writes as a call of its own
abbrev pub accepted_of : {E : Type 0} → InletCall E → List (InletCall E)
accepted_of (TriesClaim n (Ok claimed)) = TriesClaim n (Ok claimed) ∷ []
accepted_of (WritesOne s event (Ok done)) = WritesOne s event (Ok tt) ∷ []
accepted_of (WritesMany lo events wrote) = each_written lo (take wrote.count events)
accepted_of (PublishesStretch lo hi (Ok done)) = PublishesStretch lo hi (Ok tt) ∷ []
accepted_of other = []

abbrev pub accepted_in : {E : Type 0} → List (InletCall E) → List (InletCall E)
accepted_in calls = flat_map accepted_of calls

-- a part of a script, and the stretch that is claimed for it
pub record Part (E : Type 0) : Type 0 where
  pub stretch : Claimed
  pub events : List E

-- a part's claim, and the write of each of its events, in order, to the sequences of its stretch
abbrev pub writing_of : {E : Type 0} → Part E → List (InletCall E)
writing_of part = TriesClaim (length part.events) (Ok part.stretch) ∷ each_written part.stretch.lo part.events

-- and the stretch's publication
abbrev pub sending_of : {E : Type 0} → Part E → List (InletCall E)
sending_of part = writing_of part ++ PublishesStretch part.stretch.lo part.stretch.hi (Ok tt) ∷ []

-- nothing, or the claim of the next part of a script and the first of its writes
abbrev pub BeginsPart : {E : Type 0} → List E → List (InletCall E) → Type 0
BeginsPart {E} rest calls =
    (calls ≡ []) ⊎ ((part : Part E) × (k : ℕ) × (part.events ≡ take (length part.events) rest) × (0 < length part.events) × (calls ≡ take k (writing_of part)))

-- the first events of a script are sent, as many as this, part by part, and at most a claim and writes of the next part are made
pub record IsSent {E : Type 0} (script : List E) (sent : ℕ) (accepted : List (InletCall E)) : Type 0 where
  pub parts : List (Part E)
  pub next : List (InletCall E)
  pub calls : accepted ≡ flat_map sending_of parts ++ next
  pub events : flat_map (λ part. part.events) parts ≡ take sent script
  pub begins : BeginsPart (drop sent script) next

-- what an end published is more by these events
abbrev pub Adds : {E : Type 0} → List E → Sent E → Sent E → Type 0
Adds events old new = new.published ≡ old.published ++ events

-- what was claimed is published: where nothing was open, nothing is
abbrev pub LeavesNothingOpen : {E : Type 0} → Sent E → Sent E → Type 0
LeavesNothingOpen old new = old.pending ≡ [] → new.pending ≡ []

-- the first k of some events are written to the sequences from lo on, where these are all that is pending, and nothing is published
pub record Writing {E : Type 0} (lo : ℕ) (events : List E) (k : ℕ) (old new : Sent E) : Type 0 where
  pub published : new.published ≡ old.published
  pub pending : lo ≡ length old.published → old.pending ≡ replicate (length events) None
      → new.pending ≡ map (λ e. Some e) (take k events) ++ replicate (length events - k) None
