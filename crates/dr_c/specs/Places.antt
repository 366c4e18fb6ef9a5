-- The places that C points to. A pointer comes with how many things lie there: one or, where it is null, none.
use Rattle.std.specs.Prelude.{◌≡◌, Bool, true, false, List, [], ◌∷◌}

-- a call on what lies at a place, before and after; where nothing does, or more than one thing, the call is refused, and all stays as it was
abbrev pub AtPlace : {A : Type 0} → List A → List A → Type 0 → (A → A → Type 0) → Type 0
AtPlace {A} (x ∷ []) new Refused Call = (x' : A) × (new ≡ x' ∷ []) × Call x x'
AtPlace old new Refused Call = (new ≡ old) × Refused

-- the same of two places
abbrev pub AtPlaces : {A B : Type 0} → List A → List A → List B → List B → Type 0 → (A → A → B → B → Type 0) → Type 0
AtPlaces {A} {B} (x ∷ []) new (y ∷ []) new' Refused Call = (x' : A) × (y' : B) × (new ≡ x' ∷ []) × (new' ≡ y' ∷ []) × Call x x' y y'
AtPlaces old new old' new' Refused Call = (new ≡ old) × (new' ≡ old') × Refused

-- a call that reads what lies at a place, or is refused
abbrev pub ReadsAt : {A : Type 0} → List A → Type 0 → (A → Type 0) → Type 0
ReadsAt (x ∷ []) Refused Call = Call x
ReadsAt xs Refused Call = Refused

-- a call on arrays that are as long as was said, or is refused
abbrev pub Whether : Bool → Type 0 → Type 0 → Type 0
Whether true Call Refused = Call
Whether false Call Refused = Refused
