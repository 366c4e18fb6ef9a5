-- An exchange by its steps, and what lists of them come to.
use Rattle.std.specs.Prelude.{◌≡◌, ℕ, ◌+◌, Bool, List, [], ◌∷◌, ◌++◌, Result, Ok, Err}
use mathlib.Core.Option.{Option}
use Rattle.dr_meaning.specs.Meaning.Transcript.{Transcript}

-- the ends of an exchange: each has a number, which its record tells, and a step may be a store by one of them
pub record Ends (E S : Type 0) : Type 0 where
  pub number_of : E → ℕ
  pub is_store_of : ℕ → S → Bool

-- the ends of a ring with one sender: the sender is end 0, the halter end 1, and the receivers follow
abbrev pub receiver_number : ℕ → ℕ
receiver_number h = h + 2

-- An exchange of events T: C is what a slot of its table holds, E what one of its ends knows, S a step, and W a world, which is the words with what all ends know.
pub record Exchange (T C E S W : Type 0) : Type 1 where
  pub ends : Ends E S
  -- what it was made for serves
  pub IsMade : Type 0
  pub opening : W
  pub words_of : W → List ℕ
  -- what lies in the slots that are with no end
  pub Lies : W → List (Option C) → Type 0
  -- the record is that of its end in the world
  pub Stands : W → E → Type 0
  -- a step leads from one world to another, and these are the entries of its events
  pub Happens : S → W → W → Type 0
  pub entries_of : S → W → Transcript T

-- a list of steps, with the entries of their events
abbrev pub Runs : {T S W : Type 0} → (S → W → W → Type 0) → (S → W → Transcript T) → List S → Transcript T → W → W → Type 0
Runs Happens entries_of [] entries w w' = (entries ≡ []) × (w ≡ w')
Runs Happens entries_of (step ∷ steps) entries w w' =
    (between : _) × (rest : Transcript _) × Happens step w between × (entries ≡ entries_of step w ++ rest) × Runs Happens entries_of steps rest between w'

-- some steps are the beginning of others
abbrev pub IsBeginning : {S : Type 0} → List S → List S → Type 0
IsBeginning past steps = (rest : List _) × (steps ≡ past ++ rest)

-- some steps lead from the opening of an exchange to a world
pub record IsReached {T C E S W : Type 0} (X : Exchange T C E S W) (w : W) : Type 0 where
  pub made : X.IsMade
  pub steps : List S
  pub entries : Transcript T
  pub runs : Runs X.Happens X.entries_of steps entries X.opening w

-- a call that is not refused stores this and nothing else, and a refused one nothing
abbrev pub StoresWhereOk : {A E S : Type 0} → List S → List S → List S → Result A E → Type 0
StoresWhereOk stored steps stored' (Ok _) = stored' ≡ stored ++ steps
StoresWhereOk stored steps stored' (Err _) = stored' ≡ stored
