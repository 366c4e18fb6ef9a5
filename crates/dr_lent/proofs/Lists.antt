-- A list that is cut, and one in which an element is set.
use Rattle.std.proofs.Common.{◌≡◌, ◌⊎◌, ℕ, zero, suc, ◌+◌, ◌<◌, inl, inr, List, [], ◌∷◌, ◌++◌, length, set, take, drop, sym, refl, ap, ◌∙◌, arith}
use Rattle.std.proofs.Math.Seq.{take-append_seam, drop-append_seam}
use mathlib.Core.Option.{some, some-injective, some-ne-none}
use lib.ListN.{get_elem?}

module _ {A : Type 0} where
  pub set_twice : (xs : List A) (i : ℕ) (a b : A) → set (set xs i a) i b ≡ set xs i b
  set_twice [] i a b = refl
  set_twice (x ∷ xs) zero a b = refl
  set_twice (x ∷ xs) (suc i) a b = ap (λ (ys : List A). x ∷ ys) (set_twice xs i a b)

  pub drop_at : (xs : List A) (i : ℕ) (x : A) → get_elem? xs i ≡ some x → drop i xs ≡ x ∷ drop (i + 1) xs
  drop_at [] i x at = absurd (some-ne-none x (sym at))
  drop_at (y ∷ xs) zero x at = ap (λ (z : A). z ∷ xs) (some-injective y x at)
  drop_at (y ∷ xs) (suc i) x at = let e : suc (i + 1) ≡ suc i + 1 = omega arith in drop_at xs i x at ∙ ap (λ (n : ℕ). x ∷ drop n (y ∷ xs)) e

  pub take_more : (ys : List A) (i : ℕ) (y : A) → get_elem? ys i ≡ some y → take i ys ++ y ∷ [] ≡ take (i + 1) ys
  take_more [] i y at = absurd (some-ne-none y (sym at))
  take_more (z ∷ ys) zero y at = ap (λ (x : A). x ∷ []) (sym (some-injective z y at))
  take_more (z ∷ ys) (suc i) y at = let e : suc (i + 1) ≡ suc i + 1 = omega arith in
      ap (λ (xs : List A). z ∷ xs) (take_more ys i y at) ∙ ap (λ (n : ℕ). take n (z ∷ ys)) e

  pub drop_seam : (xs ys : List A) (n : ℕ) → length xs ≡ n → drop n (xs ++ ys) ≡ ys
  drop_seam xs ys n len = ap (λ (m : ℕ). drop m (xs ++ ys)) (sym len) ∙ drop-append_seam xs ys

  pub take_seam : (xs ys : List A) (n : ℕ) → length xs ≡ n → take n (xs ++ ys) ≡ xs
  take_seam xs ys n len = ap (λ (m : ℕ). take m (xs ++ ys)) (sym len) ∙ take-append_seam xs ys

  -- an element of some of a list's elements
  taken_at_least : (xs : List A) (n i : ℕ) (a : A) → get_elem? (take n xs) i ≡ some a → (i < n) × (get_elem? xs i ≡ some a)
  taken_at_least xs zero i a at = absurd (some-ne-none a (sym at))
  taken_at_least [] (suc n) i a at = absurd (some-ne-none a (sym at))
  taken_at_least (x ∷ xs) (suc n) zero a at = (omega arith, at)
  taken_at_least (x ∷ xs) (suc n) (suc i) a at = let t = taken_at_least xs n i a at in let lt = t.0 in (omega arith, t.1)

  pub taken_there : (xs : List A) (n i : ℕ) (a : A) → i < n → get_elem? xs i ≡ some a → get_elem? (take n xs) i ≡ some a
  taken_there xs zero i a lt at = absurd (omega arith)
  taken_there [] (suc n) i a lt at = at
  taken_there (x ∷ xs) (suc n) zero a lt at = at
  taken_there (x ∷ xs) (suc n) (suc i) a lt at = taken_there xs n i a (omega arith) at

  pub dropped_at : (xs : List A) (m i : ℕ) → get_elem? (drop m xs) i ≡ get_elem? xs (m + i)
  dropped_at xs zero i = let e : i ≡ 0 + i = omega arith in ap (λ (n : ℕ). get_elem? xs n) e
  dropped_at [] (suc m) i = refl
  dropped_at (x ∷ xs) (suc m) i = let e : suc (m + i) ≡ suc m + i = omega arith in
      dropped_at xs m i ∙ ap (λ (n : ℕ). get_elem? (x ∷ xs) n) e

  pub slice_at : (xs : List A) (m n i : ℕ) (a : A) → get_elem? (take n (drop m xs)) i ≡ some a → (i < n) × (get_elem? xs (m + i) ≡ some a)
  slice_at xs m n i a at = let t = taken_at_least (drop m xs) n i a at in (t.0, sym (dropped_at xs m i) ∙ t.1)

  pub at_slice : (xs : List A) (m n i : ℕ) (a : A) → i < n → get_elem? xs (m + i) ≡ some a → get_elem? (take n (drop m xs)) i ≡ some a
  at_slice xs m n i a lt at = taken_there (drop m xs) n i a lt (dropped_at xs m i ∙ at)

  -- an element of a list with one more in front
  pub first_or : (y : A) (ys : List A) (j : ℕ) (x : A) → get_elem? (y ∷ ys) j ≡ some x → (y ≡ x) ⊎ ((i : ℕ) × (get_elem? ys i ≡ some x))
  first_or y ys zero x at = inl (some-injective y x at)
  first_or y ys (suc j) x at = inr (j, at)
