-- What a handler has in hand, by its counts.
use Rattle.std.proofs.Common.{◌≡◌, ◌⊎◌, ℕ, ◌<◌, ◌≤◌, ◌&&◌, Bool, true, false, inl, inr, refl, sym, ◌∙◌}
use Rattle.std.proofs.lemmas.Bool.{cases_lt, le-leb, lt-ltb, lt-leb, le-ltb}
use Rattle.dr_runs.specs.declared.counts.HandlerCounts.{HandlerCounts}
use Rattle.dr_lent.specs.Slots.{is_in_hand}

-- what a handler has not in hand
pub free_of : (c : HandlerCounts) (s : ℕ) → is_in_hand c s ≡ false → (s < c.completed) ⊎ (c.taken ≤ s)
free_of c s free = elim (cases_lt s c.completed) [
  | inl lt ↦ inl lt
  | inr ge ↦ elim (cases_lt s c.taken) [
    | inl lt ↦ absurd (
        let held : is_in_hand c s ≡ true = (λ i. le-leb c.completed s ge i && lt-ltb s c.taken lt i) in
        let z : true ≡ false = sym held ∙ free in cc)
    | inr over ↦ inr over
  ]
]

and_false : (b : Bool) → (b && false) ≡ false
and_false true = refl
and_false false = refl

-- and what it has
pub held_of : (c : HandlerCounts) (s : ℕ) → is_in_hand c s ≡ true → (c.completed ≤ s) × (s < c.taken)
held_of c s held = elim (cases_lt s c.completed) [
  | inl lt ↦ absurd (let z : true ≡ false = sym held ∙ rw (lt-leb c.completed s lt) refl in cc)
  | inr ge ↦ elim (cases_lt s c.taken) [
    | inl lt ↦ (ge, lt)
    | inr over ↦ absurd (let z : true ≡ false = sym held ∙ rw (le-ltb s c.taken over) (and_false _) in cc)
  ]
]
