-- Which cause of a list is the first: the lists of the machine's tests and of the ends'.
use Rattle.std.proofs.Common.{◌≡◌, ℕ, zero, suc, ◌+◌, ◌<◌, inl, inr, List, [], ◌∷◌, ◌++◌, arith, add-zero}
use Rattle.std.specs.Prelude.{flat_map}
use Rattle.std.specs.List.{range_with_len}
use Rattle.dr_meaning.specs.declared.refusal.Refusal.{Refusal}
use Rattle.dr_meaning.specs.Meaning.Refusals.{NoneHolds, IsFirst}

module _ {A : Type 0} (Holds Fails : A → Type 0) where
  pub none_join : (xs ys : List (A × Refusal)) → NoneHolds Fails xs → NoneHolds Fails ys → NoneHolds Fails (xs ++ ys)
  none_join [] ys a b = b
  none_join (x ∷ xs) ys a b = (a.0, none_join xs ys a.1 b)

  pub first_left : (r : Refusal) (xs ys : List (A × Refusal)) → IsFirst Holds Fails r xs → IsFirst Holds Fails r (xs ++ ys)
  first_left r [] ys h = absurd h
  first_left r (x ∷ xs) ys (inl h) = inl h
  first_left r (x ∷ xs) ys (inr h) = inr (h.0, first_left r xs ys h.1)

  pub first_right : (r : Refusal) (xs ys : List (A × Refusal)) → NoneHolds Fails xs → IsFirst Holds Fails r ys → IsFirst Holds Fails r (xs ++ ys)
  first_right r [] ys a h = h
  first_right r (x ∷ xs) ys a h = inr (a.0, first_right r xs ys a.1 h)

  -- the tests of a stretch
  pub none_of_stretch : (causes : ℕ → List (A × Refusal)) (lo n : ℕ) → ((k : ℕ) → k < n → NoneHolds Fails (causes (lo + k))) → NoneHolds Fails (flat_map causes (range_with_len lo n))
  none_of_stretch causes lo zero h = tt
  none_of_stretch causes lo (suc n) h =
      none_join (causes lo) _ (rw add-zero at (h 0 (omega arith)))
      (none_of_stretch causes (lo + 1) n (λ k l. (let e : (lo + 1) + k ≡ lo + suc k = omega arith in rw e (h (suc k) (omega arith)))))

  pub first_of_stretch : (causes : ℕ → List (A × Refusal)) (lo n k : ℕ) (r : Refusal) → k < n → ((j : ℕ) → j < k → NoneHolds Fails (causes (lo + j))) → IsFirst Holds Fails r (causes (lo + k))
      → IsFirst Holds Fails r (flat_map causes (range_with_len lo n))
  first_of_stretch causes lo zero k r l before here = absurd (omega arith)
  first_of_stretch causes lo (suc n) zero r l before here = first_left r (causes lo) _ (rw add-zero at here)
  first_of_stretch causes lo (suc n) (suc k) r l before here =
      first_right r (causes lo) _ (rw add-zero at (before 0 (omega arith)))
      (first_of_stretch causes (lo + 1) n k r (omega arith) (λ j b. (let e : (lo + 1) + j ≡ lo + suc j = omega arith in rw e (before (suc j) (omega arith)))) (let e : (lo + 1) + k ≡ lo + suc k = omega arith in rw e here))
