-- What a handler is shown.
use Rattle.std.specs.Prelude.{◌≡◌, ℕ, ◌+◌, Bool, false, List, [], ◌∷◌}

-- one call of a handler: an event, its sequence, and whether it is the last of a batch that gave all that was available
pub record Showing (E : Type 0) : Type 0 where
  pub event : E
  pub sequence : ℕ
  pub end : Bool

-- the events of a batch from a sequence on, in order; the last is marked where the batch ends what was available
abbrev pub showings : {E : Type 0} → List E → ℕ → Bool → List (Showing E)
showings [] first end = []
showings (event ∷ []) first end = record { event = event; sequence = first; end = end } ∷ []
showings (event ∷ next ∷ events) first end = record { event = event; sequence = first; end = false } ∷ showings (next ∷ events) (first + 1) end

-- how a handler's meaning goes from before a call to after it
abbrev pub Relation : Type 0 → Type 0 → Type 1
Relation E A = A → E → ℕ → Bool → A → Type 0

-- a handler's meaning goes through some calls, one after another
abbrev pub GoesThrough : {E A : Type 0} → Relation E A → A → List (Showing E) → A → Type 0
GoesThrough goes before [] after = before ≡ after
GoesThrough {E} {A} goes before (shown ∷ rest) after = (between : A) × goes before shown.event shown.sequence shown.end between × GoesThrough goes between rest after
