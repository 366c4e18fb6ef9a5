-- What a sender's end that fills events where they lie has published and opened, and how its calls change that.
use Rattle.std.specs.Prelude.{◌≡◌, ℕ, ◌+◌, ◌-◌, ◌<◌, ◌≤◌, List, [], ◌++◌, Option, Some, None, length, map, replicate, slice_set}

-- the events that it published, in order, and of the stretch that it claimed and did not publish the first sequence, and each sequence's event once it is filled
pub record Sending (E : Type 0) : Type 0 where
  pub published : List E
  pub first : ℕ
  pub pending : List (Option E)

module _ {E : Type 0} where
  -- n sequences are open from lo on, of which none is filled
  abbrev pub Opens : ℕ → ℕ → Sending E → Sending E → Type 0
  Opens lo n old new = new ≡ record { published = old.published; first = lo; pending = replicate n None }

  -- a sequence is open
  abbrev pub IsOpen : Sending E → ℕ → Type 0
  IsOpen e s = (e.first ≤ s) × (s < e.first + length e.pending)

  -- it has an event
  abbrev pub with_filled : Sending E → ℕ → E → Sending E
  with_filled e s event = record e { pending = slice_set e.pending (s - e.first) (Some event) }

  -- an open sequence has what a change left of what lay there
  abbrev pub Changes : (E → E → Type 0) → ℕ → Sending E → Sending E → Type 0
  Changes Change s old new = (was : E) × (now : E) × Change was now × (new ≡ with_filled old s now)

  -- the stretch from lo to hi is open, and has an event in each place
  pub record IsWhole (lo hi : ℕ) (e : Sending E) : Type 0 where
    pub events : List E
    pub filled : e.pending ≡ map (λ event. Some event) events
    pub first : e.first ≡ lo
    pub some : 0 < length events
    pub last : hi + 1 ≡ lo + length events

  -- what was open follows what was published, and nothing is open
  pub record Publishes (old new : Sending E) : Type 0 where
    pub published : (events : List E) → old.pending ≡ map (λ event. Some event) events → new.published ≡ old.published ++ events
    pub closed : new.pending ≡ []
