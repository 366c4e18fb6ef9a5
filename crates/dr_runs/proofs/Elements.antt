-- Elements of lists, by their places.
use Rattle.std.proofs.Common.{◌≡◌, ◌≢◌, ℕ, zero, suc, ◌<◌, inl, inr, List, [], ◌∷◌, ◌++◌, length, get_or, set, replicate}
use Rattle.std.proofs.Common.{sym, refl, ap, ◌∙◌, subst, arith}
use Rattle.std.specs.Prelude.{Contains}
use Rattle.std.proofs.lemmas.Bool.{cases_lt}
use Rattle.std.proofs.lemmas.List.{length-append, length-replicate, get_or_append_left, get_or-replicate, get_or_past}
use mathlib.Core.Option.{some, some-injective, some-ne-none}
use lib.ListN.{get_elem?}
use Rattle.atomic_table.proofs.Lists.{at_set}

-- what a word of a table holds
abbrev pub word_at : List ℕ → ℕ → ℕ
word_at words i = get_or words i 0

pub there : {A : Type 0} (l : List A) (i : ℕ) → i < length l → (a : A) × (get_elem? l i ≡ some a)
there [] i h = absurd (omega arith)
there (x ∷ xs) zero h = (x, refl)
there (x ∷ xs) (suc i) h = there xs i (omega arith)

pub at_below : {A : Type 0} (l : List A) (i : ℕ) (a : A) → get_elem? l i ≡ some a → i < length l
at_below [] i a e = absurd (cc)
at_below (x ∷ xs) zero a e = omega arith
at_below (x ∷ xs) (suc i) a e = let r = at_below xs i a e in omega arith

pub value_at : {A : Type 0} (l : List A) (i : ℕ) (a d : A) → get_elem? l i ≡ some a → get_or l i d ≡ a
value_at [] i a d e = absurd (some-ne-none a (sym e))
value_at (x ∷ xs) zero a d e = some-injective x a e
value_at (x ∷ xs) (suc i) a d e = value_at xs i a d e

-- an element inside a list is there whatever stands for one past its end
pub at_index : {A : Type 0} (l : List A) (i : ℕ) (a : A) → i < length l → a ≡ get_or l i a → get_elem? l i ≡ some a
at_index l i a lt e = let t = there l i lt in t.1 ∙ ap some (sym (e ∙ value_at l i t.0 a t.1))

pub each_set : {A : Type 0} (P : ℕ → A → Type 0) (l : List A) (h : ℕ) (r : A) → P h r → ((j : ℕ) (q : A) → j ≢ h → get_elem? l j ≡ some q → P j q)
    → (j : ℕ) (q : A) → get_elem? (set l h r) j ≡ some q → P j q
each_set P l h r new old j q at =
    elim (at_set l h j r q at) [
      | inl x ↦ subst (λ (m : ℕ). P m q) (sym x.0) (subst (P h) x.1 new)
      | inr x ↦ old j q x.0 x.1
    ]

pub contains_none : (u : ℕ) → Contains [] u → ⊥
contains_none u has = let l : has.0 < 0 = has.1 in omega arith

-- the default of a list's element does not matter inside it
pub get_any : (xs : List ℕ) (i a b : ℕ) → i < length xs → get_or xs i a ≡ get_or xs i b
get_any [] i a b lt = absurd (omega arith)
get_any (x ∷ xs) zero a b lt = refl
get_any (x ∷ xs) (suc i) a b lt = get_any xs i a b (omega arith)

pub last_number : (xs : List ℕ) (x d : ℕ) → get_or (xs ++ x ∷ []) (length xs) d ≡ x
last_number [] x d = refl
last_number (y ∷ xs) x d = last_number xs x d

-- one count more
pub number_at : (xs : List ℕ) (x i : ℕ) → length xs ≡ i → get_or (xs ++ x ∷ []) i 0 ≡ x
number_at xs x i e = ap (λ (j : ℕ). get_or (xs ++ x ∷ []) j 0) (sym e) ∙ last_number xs x 0

pub contains_more : (xs : List ℕ) (x v : ℕ) → Contains xs x → Contains (xs ++ v ∷ []) x
contains_more xs x v has = (has.0, (let l = has.1 in omega (arith, length-append xs (v ∷ []))), get_or_append_left xs (v ∷ []) x has.0 has.1 ∙ has.2)

pub contains_last : (xs : List ℕ) (x : ℕ) → Contains (xs ++ x ∷ []) x
contains_last xs x = (length xs, omega (arith, length-append xs (x ∷ [])), last_number xs x x)

abbrev pub zeros : ℕ → List ℕ
zeros n = replicate n 0

pub all_zero : (n i : ℕ) → ◌≡◌ {A = ℕ} (get_or (zeros n) i 0) 0
all_zero n i =
    let z : ℕ = 0 in
    elim (cases_lt i n) [
      | inl lt ↦ get_or-replicate n i z z lt
      | inr past ↦ get_or_past (zeros n) i 0 (omega (arith, length-replicate n z))
    ]
