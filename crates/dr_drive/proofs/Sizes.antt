-- The sizes of rings, as a test.
use Rattle.std.proofs.Common.{◌≡◌, ◌<◌, ◌+◌, ◌^◌, ◌==◌, ◌∙◌, inl, inr, ℕ, zero, suc, true, false, length, arith, eq-eqb, get_or, zero-add}
use Rattle.std.specs.List.{list_any, range_with_len}
use Rattle.std.proofs.lemmas.Bool.{cases_Bool, eqb-true}
use Rattle.std.proofs.lemmas.List.Folds.{list_any_at}
use Rattle.std.proofs.lemmas.List.FromFn.{get_or-range_with_len, length-range_with_len}
use Rattle.dr_seq.specs.Size.{IsSize}
use Rattle.dr_drive.specs.Meaning.Setup.{is_size}

found : (n a k : ℕ) → list_any (λ e. n == 2 ^ e) (range_with_len a k) ≡ true → (e : ℕ) × (e < a + k) × (n ≡ 2 ^ e)
found n a zero h = let clash : false ≡ true = h in cc
found n a (suc k) h = elim (cases_Bool (n == 2 ^ a)) [
  | inl same ↦ (a, omega arith, eqb-true n (2 ^ a) same)
  | inr other ↦
      let rest : list_any (λ e. n == 2 ^ e) (range_with_len (a + 1) k) ≡ true = rw other at h in
      let (e, less, is) = found n (a + 1) k rest in (e, omega arith, is)
]

pub size_is : (n : ℕ) → is_size n ≡ true → IsSize n
unfolding is_size
size_is n h = let (e, less, is) = found n 0 17 h in (e, omega arith, is)

pub is_size_of : (n : ℕ) → IsSize n → is_size n ≡ true
unfolding is_size
is_size_of n (e, most, is) =
    let within : e < length (range_with_len 0 17) = rw (length-range_with_len 0 17) (omega arith) in
    let at : get_or (range_with_len 0 17) e 0 ≡ e = get_or-range_with_len 0 17 e 0 (omega arith) ∙ zero-add e in
    list_any_at (λ k. n == 2 ^ k) (range_with_len 0 17) e 0 within (rw at (eq-eqb n (2 ^ e) is))

pub no_size : (n : ℕ) → (IsSize n → ⊥) → is_size n ≡ false
no_size n h = elim (cases_Bool (is_size n)) [ inl yes_ ↦ absurd (h (size_is n yes_)) | inr no_ ↦ no_ ]
