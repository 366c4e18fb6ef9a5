-- Handlers of two types in one list.
use Rattle.std.specs.Prelude.{◌≡◌, List, [], ◌∷◌}
use Rattle.dr_meaning.specs.Calls.Handling.{Relation}
use Rattle.dr_disruptor.specs.declared.one_of.OneOf.{OneOf}
use Rattle.dr_disruptor.specs.declared.one_of.OneOf.TheVariants.{First, Second}

-- a handler of one of two types goes as its own type does, and stays of that type
abbrev pub goes_as_one_of : {E A B : Type 0} → Relation E A → Relation E B → Relation E (OneOf A B)
goes_as_one_of goes other (First old) event s end (First new) = goes old event s end new
goes_as_one_of goes other (First old) event s end (Second new) = ⊥
goes_as_one_of goes other (Second old) event s end (First new) = ⊥
goes_as_one_of goes other (Second old) event s end (Second new) = other old event s end new

-- a list has one handler of each type, in order
abbrev pub AreTwo : {A B : Type 0} → List (OneOf A B) → Type 0
AreTwo {A} {B} handlers = (a : A) × (b : B) × (handlers ≡ First a ∷ Second b ∷ [])

abbrev pub AreThree : {A B C : Type 0} → List (OneOf A (OneOf B C)) → Type 0
AreThree {A} {B} {C} handlers = (a : A) × (b : B) × (c : C) × (handlers ≡ First a ∷ Second (First b) ∷ Second (Second c) ∷ [])
