-- What follows from a number's being a ring's size.
use Rattle.std.proofs.Common.{◌≡◌, ℕ, ◌-◌, ◌*◌, ◌/◌, ◌%◌, ◌^◌, ◌<◌, ◌≤◌, inl, inr, arith, sym, ap, subst, suc, lit<}
use Rattle.std.specs.Prelude.{bit_and}
use Rattle.std.proofs.Math.Pow.{pow_mono}
use Rattle.std.proofs.Math.Nat.{pow-succ', one-mul, mod-eq_of_lt}
use Rattle.std.proofs.lemmas.Nat.{and_mask}
use Rattle.std.proofs.lemmas.Nat.Bits.{bit_at-trailing_zeros, bit_at-pow_other}
use Rattle.std.specs.Int.{trailing_zeros, w64, bit_at}
use Rattle.std.proofs.lemmas.Bool.{cases_lt, cases_eq}
use Rattle.dr_seq.specs.Size.{IsSize}

-- a ring has a slot at least
pub size_positive : (n : ℕ) → IsSize n → 0 < n
size_positive n is = let low : 2 ^ 0 ≤ 2 ^ is.0 = pow_mono {i = 0} {j = is.0} (omega arith) in let same : n ≡ 2 ^ is.0 = is.2 in omega arith

pub size_at_most : (n : ℕ) → IsSize n → n ≤ 65536
size_at_most n is = let high : 2 ^ is.0 ≤ 2 ^ 16 = pow_mono {i = is.0} {j = 16} is.1 in let same : n ≡ 2 ^ is.0 = is.2 in omega arith

-- the mask finds the remainder
pub mask_is_remainder : (n s : ℕ) → IsSize n → bit_and s (n - 1) ≡ s % n
mask_is_remainder n s is = let P : ℕ → Type 0 = λ m. bit_and s (m - 1) ≡ s % m in subst P (sym is.2) (and_mask s is.0)

-- one power of two lies between another and its double
pub power_between : (j k : ℕ) → 2 ^ k ≤ 2 ^ j → 2 ^ j < 2 * 2 ^ k → 2 ^ j ≡ 2 ^ k
power_between j k low high = elim (cases_lt k j) [
  | inl above ↦ absurd (let double : 2 ^ suc k ≤ 2 ^ j = pow_mono {i = suc k} {j = j} (omega arith) in let two : 2 ^ suc k ≡ 2 * 2 ^ k = pow-succ' 2 k in omega arith)
  | inr below ↦ (let same : 2 ^ j ≤ 2 ^ k = pow_mono {i = j} {j = k} below in omega arith)
]

-- a power of two that is no more than the greatest size has a small exponent
pub exponent_small : (k : ℕ) → 2 ^ k ≤ 65536 → k ≤ 16
exponent_small k small = elim (cases_lt 16 k) [
  | inl above ↦ absurd (let more : 2 ^ 17 ≤ 2 ^ k = pow_mono {i = 17} {j = k} above in omega arith)
  | inr below ↦ below
]

-- a small power of two, as a shift gives it
pub shifted : (k : ℕ) → 2 ^ k ≤ 65536 → (1 * 2 ^ k) % 2 ^ 64 ≡ 2 ^ k
shifted k small = rw (one-mul) (mod-eq_of_lt (let fits : 65536 < 2 ^ 64 = lit< tt in omega arith))

-- the lowest bit of a power of two is its exponent
trailing_zeros-pow : (k : ℕ) → k ≤ 16 → trailing_zeros w64 (2 ^ k) ≡ k
trailing_zeros-pow k small =
    let low : 2 ^ 0 ≤ 2 ^ k = pow_mono {i = 0} {j = k} (omega arith) in
    let high : 2 ^ k ≤ 2 ^ 16 = pow_mono {i = k} {j = 16} small in
    let fits : 2 ^ k < 2 ^ 64 = (let far : 2 ^ 16 < 2 ^ 64 = lit< tt in omega arith) in
    let found = bit_at-trailing_zeros w64 (2 ^ k) (omega arith) fits in
    elim (cases_eq (trailing_zeros w64 (2 ^ k)) k) [
      | inl same ↦ same
      | inr other ↦ absurd (let none : bit_at (2 ^ k) (trailing_zeros w64 (2 ^ k)) ≡ 0 = bit_at-pow_other k (trailing_zeros w64 (2 ^ k)) other in let one : bit_at (2 ^ k) (trailing_zeros w64 (2 ^ k)) ≡ 1 = found.1 in omega arith)
    ]

-- the shift finds the quotient
pub shift_is_quotient : (n s : ℕ) → IsSize n → s / 2 ^ trailing_zeros w64 n ≡ s / n
shift_is_quotient n s is =
    let P : ℕ → Type 0 = λ m. s / 2 ^ trailing_zeros w64 m ≡ s / m in
    subst P (sym is.2) (ap (λ k. s / 2 ^ k) (trailing_zeros-pow is.0 is.1))
