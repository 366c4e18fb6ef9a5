-- What a run's sender has filled and published.
use Rattle.std.specs.Prelude.{◌≡◌, ◌≢◌, ℕ, ◌+◌, ◌-◌, ◌<◌, min, List, [], ◌∷◌, ◌++◌, Some, None, Err, Ok, length, map, replicate, take}
use mathlib.Core.Option.{some}
use lib.ListN.{get_elem?}
use Rattle.dr_meaning.specs.declared.refusal.Refusal.{Refusal}
use Rattle.dr_meaning.specs.declared.refusal.Refusal.TheVariants.{NoRoom}
use Rattle.dr_meaning.specs.declared.claim_fault.ClaimFault.TheVariants.{Refused}
use Rattle.dr_meaning.specs.Calls.Calling.{CallsLead, ChangesEvent, ClaimsStretch, InPlaceInletCall, PublishesFilled, SomeCalls}
use Rattle.dr_meaning.specs.Calls.InPlaceInlets.{Sending}
use Rattle.dr_workers.specs.Meaning.Work.{AreCut}
use Rattle.dr_plain_senders.specs.declared.record.Step.{Step}
use Rattle.dr_plain_senders.specs.declared.record.Step.TheVariants.{SenderHalts}

-- calls were made of an end, one after another, and nothing else was done to it
abbrev pub OnlyCalled : {I : Type 0} → (I → InPlaceInletCall → I → Type 0) → I → I → Type 0
OnlyCalled does old new = (calls : List InPlaceInletCall) × CallsLead does old calls new

-- how many sequences each accepted claim of some calls is of
abbrev pub accepted : List InPlaceInletCall → List ℕ
accepted [] = []
accepted (ClaimsStretch n (Ok claimed) ∷ calls) = n ∷ accepted calls
accepted (ClaimsStretch n (Err fault) ∷ calls) = accepted calls
accepted (ChangesEvent s ∷ calls) = accepted calls
accepted (PublishesFilled lo hi ∷ calls) = accepted calls

-- so they were, and the accepted claims among them are of these lengths
abbrev pub ClaimsJust : {I : Type 0} → (I → InPlaceInletCall → I → Type 0) → List ℕ → I → I → Type 0
ClaimsJust does claims old new = SomeCalls does old new (λ calls. accepted calls ≡ claims)

-- a claim of n was refused for another cause than that there was no room, after it was tried again and again: what the end sent is as before
pub record IsRefused {I K E : Type 0} (kept : I → K) (sending : I → Sending E) (does : I → InPlaceInletCall → I → Type 0) (n : ℕ) (r : Refusal) (old new : I) : Type 0 where
  pub tried : I
  pub calls : OnlyCalled does old tried
  pub place : kept tried ≡ kept old
  pub before : sending tried ≡ sending old
  pub refused : does tried (ClaimsStretch n (Err (Refused r))) new
  pub waits : r ≢ NoRoom
  pub same : sending new ≡ sending old

-- a step of a ring with several senders is no sender's halt
abbrev pub IsNoHalt : {E : Type 0} → Step E → Type 0
IsNoHalt (SenderHalts p) = ⊥
IsNoHalt _ = Unit {0}

module _ {E : Type 0} where
  -- one event more is published, which is what a change left of what lay in its cell
  abbrev pub SendsOne : (E → E → Type 0) → List E → List E → Type 0
  SendsOne Change old new = (was : E) × (now : E) × Change was now × (new ≡ old ++ now ∷ [])

  -- these events were filled one after another, of which the first has this number, and each from what was left in its cell
  abbrev pub Fills : (ℕ → E → E → Type 0) → ℕ → List E → Type 0
  Fills by k [] = Unit {0}
  Fills by k (event ∷ events) = (was : E) × by k was event × Fills by (k + 1) events

  -- so they were by what goes from one state to another as it fills
  abbrev pub FillsOn : {S : Type 0} → (S → ℕ → E → S → E → Type 0) → S → ℕ → List E → S → Type 0
  FillsOn by state k [] last = state ≡ last
  FillsOn {S} by state k (event ∷ events) last = (was : E) × (next : S) × by state k was next event × FillsOn by next (k + 1) events last

  -- the event of a number is that of a list
  abbrev pub IsNth : List E → ℕ → E → E → Type 0
  IsNth events k was now = get_elem? events k ≡ some now

  -- k of n sequences that were claimed from lo on are filled, of which this is so, and the others have no event yet
  pub record FillsPart (Are : List E → Type 0) (k n lo : ℕ) (old new : Sending E) : Type 0 where
    pub events : List E
    pub left : ℕ
    pub many : length events ≡ k
    pub all : k + left ≡ n
    pub fills : Are events
    pub pending : new.pending ≡ map (λ event. Some event) events ++ replicate left None
    pub at : new.first ≡ lo
    pub published : new.published ≡ old.published

  -- n events, of which this is so, are published after others
  pub record SendsAll (Are : List E → Type 0) (n : ℕ) (old new : List E) : Type 0 where
    pub events : List E
    pub many : length events ≡ n
    pub fills : Are events
    pub published : new ≡ old ++ events

  -- n sequences were claimed at once: there is a state of this end in which just the first `at` events of now were published, and n sequences were open, none filled
  pub record ClaimedAtOnce {I K : Type 0} (kept : I → K) (sending : I → Sending E) (at n : ℕ) (old new : I) : Type 0 where
    pub claimed : I
    pub place : kept claimed ≡ kept old
    pub published : (sending claimed).published ≡ take at (sending new).published
    pub unfilled : (sending claimed).pending ≡ replicate n None

  -- all that is published now behind so many was claimed in claims of these lengths, each at once when those before it were published
  abbrev pub ClaimedInTurn : {I K : Type 0} → (I → K) → (I → Sending E) → ℕ → List ℕ → I → I → Type 0
  ClaimedInTurn kept sending at [] old new = length (sending new).published ≡ at
  ClaimedInTurn kept sending at (n ∷ claims) old new = ClaimedAtOnce kept sending at n old new × ClaimedInTurn kept sending (at + n) claims old new

  -- what was published more was claimed in claims of what was left of n, but at most of a cut, and nothing else was claimed
  pub record ClaimedInCuts {I K : Type 0} (kept : I → K) (sending : I → Sending E) (does : I → InPlaceInletCall → I → Type 0) (cut n : ℕ) (old new : I) : Type 0 where
    pub claims : List ℕ
    pub cuts : AreCut cut n claims
    pub calls : ClaimsJust does claims old new
    pub turns : ClaimedInTurn kept sending (length (sending old).published) claims old new

  -- of n events, in claims of at most so many, the first were published, and the claim of the next ones was refused
  pub record StopsAfter {I K : Type 0} (by : ℕ → E → E → Type 0) (kept : I → K) (sending : I → Sending E) (does : I → InPlaceInletCall → I → Type 0) (n cut : ℕ)
      (r : Refusal) (old new : I) : Type 0 where
    pub done : ℕ
    pub between : I
    pub some : done < n
    pub place : kept between ≡ kept old
    pub sent : SendsAll (Fills by 0) done (sending old).published (sending between).published
    pub claims : ClaimedInCuts kept sending does cut n old between
    pub refused : IsRefused kept sending does (min (n - done) cut) r between new
