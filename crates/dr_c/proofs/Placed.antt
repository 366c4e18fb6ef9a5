-- What lies at a place that was found to hold one thing.
use Rattle.std.proofs.Common.{◌≡◌, ℕ, Bool, List, [], ◌∷◌, length, get_or, set, refl, arith, sym, subst}
use Rattle.std.specs.Prelude.{◌==◌}
use Rattle.std.proofs.lemmas.Bool.{eq-eqb}
use Rattle.dr_c.specs.Places.{AtPlace, AtPlaces, ReadsAt, Whether}

pub at_place : {A : Type 0} (Refused : Type 0) (Call : A → A → Type 0) (xs : List A) (x' other : A) → length xs ≡ 1 → Call (get_or xs 0 other) x'
    → AtPlace xs (set xs 0 x') Refused Call
at_place Refused Call [] x' other one call = let e : ⊥ = omega arith in absurd e
at_place Refused Call (x ∷ []) x' other one call = (x', refl, call)
at_place Refused Call (x ∷ y ∷ xs) x' other one call = let e : ⊥ = omega arith in absurd e

pub at_places : {A B : Type 0} (Refused : Type 0) (Call : A → A → B → B → Type 0) (xs : List A) (ys : List B) (x' other : A) (y' another : B) → length xs ≡ 1
    → length ys ≡ 1 → Call (get_or xs 0 other) x' (get_or ys 0 another) y' → AtPlaces xs (set xs 0 x') ys (set ys 0 y') Refused Call
at_places Refused Call [] ys x' other y' another one one' call = let e : ⊥ = omega arith in absurd e
at_places Refused Call (x ∷ []) [] x' other y' another one one' call = let e : ⊥ = omega arith in absurd e
at_places Refused Call (x ∷ []) (y ∷ []) x' other y' another one one' call = (x', y', refl, refl, call)
at_places Refused Call (x ∷ []) (y ∷ z ∷ ys) x' other y' another one one' call = let e : ⊥ = omega arith in absurd e
at_places Refused Call (x ∷ w ∷ xs) ys x' other y' another one one' call = let e : ⊥ = omega arith in absurd e

pub reads_at : {A : Type 0} (Refused : Type 0) (Call : A → Type 0) (xs : List A) (other : A) → length xs ≡ 1 → Call (get_or xs 0 other)
    → ReadsAt xs Refused Call
reads_at Refused Call [] other one call = let e : ⊥ = omega arith in absurd e
reads_at Refused Call (x ∷ []) other one call = call
reads_at Refused Call (x ∷ y ∷ xs) other one call = let e : ⊥ = omega arith in absurd e

pub whether_same : (Call Refused : Type 0) (m n : ℕ) → m ≡ n → Call → Whether (m == n) Call Refused
whether_same Call Refused m n same call = subst (λ (b : Bool). Whether b Call Refused) (sym (eq-eqb m n same)) call
