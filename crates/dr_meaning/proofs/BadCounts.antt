-- A claim's count that is bad for one size, and for every size.
use Rattle.std.proofs.Common.{◌≡◌, ◌<◌, ℕ, zero, suc, true, false, not, ◌==◌, ◌||◌, inl, inr, refl, sym, ◌∙◌, arith}
use Rattle.std.specs.Prelude.{nat_lt}
use Rattle.std.proofs.lemmas.Bool.{cases_Bool, ne_eqb, le-ltb, ltb-true, ltb-false, or_parts, false≢true}
use Rattle.dr_seq.specs.Size.{IsSize}
use Rattle.dr_seq.proofs.Sizes.{size_positive, size_at_most}

pub bad_is_not_one : (n size : ℕ) → IsSize size → ((n == 0) || nat_lt size n) ≡ true → not (n == 1) ≡ true
bad_is_not_one zero size is bad = refl
bad_is_not_one (suc n) size is bad =
    let some = size_positive size is in
    let over = rw (ne_eqb (suc n) 0 (λ (z : suc n ≡ 0). absurd (omega arith))) at bad in
    let more : size < suc n = ltb-true size (suc n) over in
    rw (ne_eqb (suc n) 1 (λ (z : suc n ≡ 1). absurd (omega arith))) refl

pub good_is_never_bad : (n size : ℕ) → IsSize size → ((n == 0) || nat_lt size n) ≡ false → ((n == 0) || nat_lt 65536 n) ≡ false
good_is_never_bad n size is good =
    let few = size_at_most size is in
    let parts = or_parts (n == 0) (nat_lt size n) good in
    let within = ltb-false size n parts.1 in
    rw (parts.0, le-ltb 65536 n (omega arith)) refl

pub bad_in_every : (n size : ℕ) → IsSize size → ((n == 0) || nat_lt 65536 n) ≡ true → ((n == 0) || nat_lt size n) ≡ true
bad_in_every n size is bad =
    elim (cases_Bool ((n == 0) || nat_lt size n)) [
      | inl here ↦ here
      | inr good ↦ absurd (false≢true (sym (good_is_never_bad n size is good) ∙ bad))
    ]
