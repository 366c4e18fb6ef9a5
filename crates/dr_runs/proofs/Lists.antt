-- Elements of lists, by their places.
use Rattle.std.proofs.Common.{◌≡◌, ◌≢◌, ℕ, zero, suc, ◌+◌, ◌<◌, ◌≤◌, List, [], ◌∷◌, ◌++◌, map, length, set, take, drop, refl, sym, ap, ◌∙◌, arith}
use Rattle.std.specs.List.{range_with_len}
use mathlib.Core.Option.{some, some-injective, some-ne-none}
use lib.ListN.{get_elem?}

-- what stands for each of some numbers
pub map_same : (f g : ℕ → ℕ) (a n : ℕ) → ((j : ℕ) → a ≤ j → j < a + n → f j ≡ g j) → map f (range_with_len a n) ≡ map g (range_with_len a n)
map_same f g a zero same = refl
map_same f g a (suc n) same = λ i. same a (omega arith) (omega arith) i ∷ map_same f g (a + 1) n (λ j low high. same j (omega arith) (omega arith)) i

pub map_but : (f g : ℕ → ℕ) (a n i v : ℕ) → i < n → g (a + i) ≡ v → ((j : ℕ) → j ≢ a + i → g j ≡ f j)
    → map g (range_with_len a n) ≡ set (map f (range_with_len a n)) i v
map_but f g a zero i v lt here same = absurd (omega arith)
map_but f g a (suc n) zero v lt here same = λ i.
    (ap g (let z : a ≡ a + 0 = omega arith in z) ∙ here) i ∷ map_same g f (a + 1) n (λ j low high. same j (λ (e : j ≡ a + 0). omega arith)) i
map_but f g a (suc n) (suc j) v lt here same = let at : a + 1 + j ≡ a + suc j = omega arith in
    λ i. same a (λ (e : a ≡ a + suc j). omega arith) i ∷ map_but f g (a + 1) n j v (omega arith) (ap g at ∙ here)
    (λ q ne. same q (λ (e : q ≡ a + suc j). ne (omega arith))) i

module _ {A : Type 0} where
  pub no_elements : (xs : List A) → length xs ≡ 0 → xs ≡ []
  no_elements [] e = refl
  no_elements (x ∷ xs) e = absurd (omega arith)

  pub take_whole : (xs : List A) (n : ℕ) → length xs ≤ n → take n xs ≡ xs
  take_whole [] zero le = refl
  take_whole [] (suc n) le = refl
  take_whole (x ∷ xs) zero le = absurd (omega arith)
  take_whole (x ∷ xs) (suc n) le = ap (λ (ys : List A). x ∷ ys) (take_whole xs n (omega arith))

  pub past_end : (xs : List A) (n : ℕ) → length xs ≡ n → drop n xs ≡ []
  past_end [] zero len = refl
  past_end [] (suc n) len = refl
  past_end (x ∷ xs) zero len = absurd (omega arith)
  past_end (x ∷ xs) (suc n) len = past_end xs n (omega arith)

  -- what is set at a place comes before what follows it
  pub drop_set : (xs : List A) (n : ℕ) (x : A) (ys : List A) → n < length xs → drop (n + 1) xs ≡ ys → drop n (set xs n x) ≡ x ∷ ys
  drop_set [] n x ys lt rest = absurd (omega arith)
  drop_set (y ∷ xs) zero x ys lt rest = ap (λ (zs : List A). x ∷ zs) rest
  drop_set (y ∷ xs) (suc n) x ys lt rest =
      drop_set xs n x ys (omega arith) (let e : suc (n + 1) ≡ suc n + 1 = omega arith in ap (λ (m : ℕ). drop m (y ∷ xs)) e ∙ rest)

  -- an element of the second of two lists
  pub at_behind : (xs ys : List A) (j : ℕ) (y : A) → get_elem? ys j ≡ some y → get_elem? (xs ++ ys) (length xs + j) ≡ some y
  at_behind [] ys j y at = let e : 0 + j ≡ j = omega arith in ap (λ (n : ℕ). get_elem? ys n) e ∙ at
  at_behind (x ∷ xs) ys j y at =
      let e : suc (length xs) + j ≡ suc (length xs + j) = omega arith in ap (λ (n : ℕ). get_elem? (x ∷ (xs ++ ys)) n) e ∙ at_behind xs ys j y at

  -- lists of one length that have the same elements
  pub same_lists : (xs ys : List A) → length xs ≡ length ys → ((i : ℕ) (y : A) → get_elem? ys i ≡ some y → get_elem? xs i ≡ some y) → xs ≡ ys
  same_lists [] [] e all = refl
  same_lists [] (y ∷ ys) e all = absurd (omega arith)
  same_lists (x ∷ xs) [] e all = absurd (omega arith)
  same_lists (x ∷ xs) (y ∷ ys) e all = λ i. some-injective x y (all 0 y refl) i ∷ same_lists xs ys (omega arith) (λ h r at. all (suc h) r at) i

module _ {A B : Type 0} (f : A → B) where
  pub at_map : (xs : List A) (i : ℕ) (y : B) → get_elem? (map f xs) i ≡ some y → (x : A) × (get_elem? xs i ≡ some x) × (f x ≡ y)
  at_map [] i y at = absurd (some-ne-none y (sym at))
  at_map (x ∷ xs) zero y at = (x, refl, some-injective (f x) y at)
  at_map (x ∷ xs) (suc i) y at = at_map xs i y at

  pub map_there : (xs : List A) (i : ℕ) (x : A) → get_elem? xs i ≡ some x → get_elem? (map f xs) i ≡ some (f x)
  map_there [] i x at = absurd (some-ne-none x (sym at))
  map_there (y ∷ xs) zero x at = ap (λ z. some (f z)) (some-injective y x at)
  map_there (y ∷ xs) (suc i) x at = map_there xs i x at
