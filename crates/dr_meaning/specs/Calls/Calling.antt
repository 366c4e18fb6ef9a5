-- The calls of an end with their answers, and an end before and after calls that are made one after another.
use Rattle.std.specs.Prelude.{◌≡◌, ℕ, ◌+◌, ◌⊎◌, List, [], ◌∷◌, ◌++◌, take, drop, Option, None, Some, Result, Ok, Err}
use Rattle.dr_meaning.specs.declared.claim_fault.ClaimFault.{ClaimFault}
use Rattle.dr_meaning.specs.declared.command.Claimed.{Claimed}
use Rattle.dr_meaning.specs.declared.command.Polled.{Polled}
use Rattle.dr_meaning.specs.declared.ends.Trouble.{Trouble}
use Rattle.dr_meaning.specs.declared.ends.Wrote.{Wrote}

-- a call of a producer's end, with its answer
pub data InletCall (E : Type 0) : Type 0 where
  TriesClaim : ℕ → Result Claimed Trouble → InletCall E
  WritesOne : ℕ → E → Result (Unit {0}) Trouble → InletCall E
  WritesMany : ℕ → List E → Wrote → InletCall E
  PublishesStretch : ℕ → ℕ → Result (Unit {0}) Trouble → InletCall E

-- a call of a handler's end, with its answer; a poll with its buffer before and after
pub data OutletCall (E : Type 0) : Type 0 where
  PollsInto : List E → List E → Result Polled Trouble → OutletCall E
  CompletesBelow : ℕ → Result (Unit {0}) Trouble → OutletCall E

-- a call of a handler's end that shows events where they lie: a poll with room for so many, with its answer, or a completion
pub data InPlaceCall : Type 0 where
  Polls : ℕ → Polled → InPlaceCall
  CompletesUpTo : ℕ → InPlaceCall

-- a call of a producer's end that fills events where they lie: a claim of so many with its answer, a change of a sequence's event, or a publication of a stretch that is filled
pub data InPlaceInletCall : Type 0 where
  ClaimsStretch : ℕ → Result Claimed ClaimFault → InPlaceInletCall
  ChangesEvent : ℕ → InPlaceInletCall
  PublishesFilled : ℕ → ℕ → InPlaceInletCall

-- calls, made one after another, lead from an end before to the end after
abbrev pub CallsLead : {S C : Type 0} → (S → C → S → Type 0) → S → List C → S → Type 0
CallsLead does old [] new = new ≡ old
CallsLead {S} does old (call ∷ calls) new = (between : S) × does old call between × CallsLead does between calls new

-- some calls lead there, of which this holds
pub record SomeCalls {S C : Type 0} (does : S → C → S → Type 0) (old new : S) (Holds : List C → Type 0) : Type 0 where
  pub calls : List C
  pub lead : CallsLead does old calls new
  pub holds : Holds calls

-- Many writes.

-- events are written one by one, from a sequence on
abbrev pub each_written : {E : Type 0} → ℕ → List E → List (InletCall E)
each_written lo [] = []
each_written lo (event ∷ events) = WritesOne lo event (Ok tt) ∷ each_written (lo + 1) events

-- the first of some events is not written, where there is trouble
abbrev pub first_in_trouble : {E : Type 0} → ℕ → Option Trouble → List E → List (InletCall E)
first_in_trouble s None events = []
first_in_trouble s (Some trouble) [] = []
first_in_trouble s (Some trouble) (event ∷ events) = WritesOne s event (Err trouble) ∷ []

-- events are written one by one, up to the first in trouble
abbrev pub writes_of : {E : Type 0} → ℕ → List E → Wrote → List (InletCall E)
writes_of lo events wrote = each_written lo (take wrote.count events) ++ first_in_trouble (lo + wrote.count) wrote.trouble (drop wrote.count events)

-- many events are written by one call, or one by one
abbrev pub WritesBy : {S E : Type 0} → S → S → (S → InletCall E → S → Type 0) → ℕ → List E → Wrote → Type 0
WritesBy old new does lo events wrote = does old (WritesMany lo events wrote) new ⊎ CallsLead does old (writes_of lo events wrote) new
