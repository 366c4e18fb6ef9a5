-- Places of lists, words and looks.
use Rattle.std.proofs.Common.{◌≡◌, ◌≢◌, ℕ, zero, suc, ◌+◌, ◌%◌, ◌<◌, ◌≤◌, ◌⊎◌, inl, inr, true, false, List, [], ◌∷◌, ◌++◌}
use Rattle.std.proofs.Common.{length, set, replicate, sym, refl, ap, ◌∙◌, arith, get_or-set_same, get_or-set_other}
use Rattle.std.proofs.lemmas.Bool.{cases_eq, cases_lt, lt-ltb, le-ltb, le-leb, lt-leb}
use mathlib.Core.Option.{some, some-injective, some-ne-none}
use lib.ListN.{get_elem?}
use Rattle.atomic_table.proofs.Lists as lists
use Rattle.atomic_table.proofs.Lists.{one_turn}
use Rattle.dr_runs.specs.declared.look.Look.{Look}
use Rattle.dr_plain_senders.specs.Meaning.Shape.{Shape}
use Rattle.dr_plain_senders.specs.Meaning.Words.{claimed_in, is_halted, halted_from, halt_bit, mark_start}
use Rattle.dr_plain_senders.specs.Meaning.Rule.{ArePast}
use Rattle.dr_runs.proofs.Elements.{word_at}

pub more_right : {A : Type 0} (l m : List A) (i : ℕ) (t : A) → get_elem? m i ≡ some t → get_elem? (l ++ m) (length l + i) ≡ some t
more_right [] m i t at = (let z : 0 + i ≡ i = omega arith in ap (λ (j : ℕ). get_elem? m j) z) ∙ at
more_right (x ∷ xs) m i t at = (let z : suc (length xs) + i ≡ suc (length xs + i) = omega arith in ap (λ (j : ℕ). get_elem? (x ∷ xs ++ m) j) z)
    ∙ more_right xs m i t at

pub more_cases : {A : Type 0} (l m : List A) (s : ℕ) (t : A) → get_elem? (l ++ m) s ≡ some t
    → (get_elem? l s ≡ some t) ⊎ ((i : ℕ) × (s ≡ length l + i) × (get_elem? m i ≡ some t))
more_cases [] m s t at = inr (s, omega arith, at)
more_cases (x ∷ xs) m zero t at = inl at
more_cases (x ∷ xs) m (suc s) t at = elim (more_cases xs m s t at) [ inl y ↦ inl y | inr y ↦ (let e = y.1 in inr (y.0, omega arith, y.2)) ]

pub at_replicate : {A : Type 0} (n : ℕ) (a t : A) (i : ℕ) → get_elem? (replicate n a) i ≡ some t → a ≡ t
at_replicate zero a t i at = absurd (some-ne-none t (sym at))
at_replicate (suc n) a t zero at = some-injective a t at
at_replicate (suc n) a t (suc i) at = at_replicate n a t i at

pub in_replicate : {A : Type 0} (n : ℕ) (a : A) (i : ℕ) → i < n → get_elem? (replicate n a) i ≡ some a
in_replicate zero a i lt = absurd (omega arith)
in_replicate (suc n) a zero lt = refl
in_replicate (suc n) a (suc i) lt = in_replicate n a i (omega arith)

pub set_else : {A : Type 0} (l : List A) (s i : ℕ) (a t : A) → i ≢ s → get_elem? l i ≡ some t → get_elem? (set l s a) i ≡ some t
set_else l s i a t ne at = lists.set_else l s i a ne ∙ at

-- one place has one value
pub one_value : {A : Type 0} (l : List A) (i : ℕ) (a b : A) → get_elem? l i ≡ some a → get_elem? l i ≡ some b → a ≡ b
one_value l i a b x y = some-injective a b (sym x ∙ y)

-- what the claim word says
pub claimed_low : (n : ℕ) → n < halt_bit → claimed_in n ≡ n
claimed_low n lt = rw (lt-ltb n halt_bit lt) refl

pub halted_low : (n : ℕ) → n < halt_bit → is_halted n ≡ false
halted_low n lt = lt-leb halt_bit n lt

pub claimed_halted : (n : ℕ) → claimed_in (halted_from n) ≡ claimed_in n
claimed_halted n = elim (cases_lt n halt_bit) [
  | inl lt ↦ rw (lt-ltb n halt_bit lt, le-ltb (n + halt_bit) halt_bit (omega arith)) (omega arith)
  | inr ge ↦ rw (le-ltb n halt_bit ge) (rw (le-ltb n halt_bit ge) refl)
]

pub halted_rises : (n : ℕ) → n ≤ halted_from n
halted_rises n = elim (cases_lt n halt_bit) [
  | inl lt ↦ rw (lt-ltb n halt_bit lt) (omega arith)
  | inr ge ↦ rw (le-ltb n halt_bit ge) (omega arith)
]

pub is_halted_from : (n : ℕ) → is_halted (halted_from n) ≡ true
is_halted_from n = elim (cases_lt n halt_bit) [
  | inl lt ↦ rw (lt-ltb n halt_bit lt) (le-leb halt_bit (n + halt_bit) (omega arith))
  | inr ge ↦ rw (le-ltb n halt_bit ge) (le-leb halt_bit n ge)
]

-- words that only rise
abbrev pub Rises : {T : Type 0} → Shape T → List ℕ → List ℕ → Type 0
Rises k words us = (i : ℕ) → i < mark_start k → word_at words i ≤ word_at us i

pub rises_set : {T : Type 0} (k : Shape T) (words : List ℕ) (i n : ℕ) → i < length words
    → (i < mark_start k → word_at words i ≤ n) → Rises k words (set words i n)
rises_set k words i n inside up j low = elim (cases_eq j i) [
  | inl e ↦ (let a : word_at (set words i n) j ≡ n = ap (λ (m : ℕ). word_at (set words i n) m) e ∙ get_or-set_same words i n 0 inside in
      let b : word_at words j ≡ word_at words i = ap (λ (m : ℕ). word_at words m) e in let c = up (omega arith) in omega arith)
  | inr ne ↦ (let a : word_at (set words i n) j ≡ word_at words j = get_or-set_other words i j n 0 ne in omega arith)
]

pub past_rises : {T : Type 0} (k : Shape T) (words us : List ℕ) (looks : List Look) → Rises k words us → ArePast k words looks → ArePast k us looks
past_rises k words us looks up all j x at =
    let d = all j x at in record { rises = d.rises; before = let a = d.before in let b = up x.word d.rises in omega arith }

-- two sequences less than a round apart have slots of their own
pub own_slot : {T : Type 0} (k : Shape T) (a b : ℕ) → a ≢ b → b < a + k.size → a < b + k.size → a % k.size ≢ b % k.size
own_slot k a b ne up down e = elim (cases_lt a b) [
  | inl lt ↦ ne (one_turn a b k.size (omega arith) up e)
  | inr ge ↦ ne (sym (one_turn b a k.size ge down (sym e)))
]
