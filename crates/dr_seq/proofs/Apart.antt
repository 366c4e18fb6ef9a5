-- Sequences that lie in slots of their own.
use Rattle.std.proofs.Common.{◌≡◌, ℕ, ◌+◌, ◌*◌, ◌/◌, ◌%◌, ◌<◌, ◌≤◌, ◌≢◌, inl, inr, arith, sym}
use Rattle.std.proofs.lemmas.Bool.{cases_lt}
use Rattle.std.proofs.lemmas.Nat.{div-add-mod'}
use Rattle.std.proofs.Math.Nat.{mul-le-mul_right}

later_slot : (size s t : ℕ) → s < t → t < s + size → s % size ≢ t % size
later_slot size s t later near same =
    let x : s / size * size + s % size ≡ s = div-add-mod' s size in
    let y : t / size * size + t % size ≡ t = div-add-mod' t size in
    elim (cases_lt (s / size) (t / size)) [
      | inl lt ↦ (let p : (s / size + 1) * size ≤ t / size * size = mul-le-mul_right size (let q : s / size + 1 ≤ t / size = omega arith in q) in omega (arith, p))
      | inr ge ↦ (let p : t / size * size ≤ s / size * size = mul-le-mul_right size ge in omega (arith, p))
    ]

-- two sequences less than the size apart have different slots
pub slots_differ : (size s t : ℕ) → s ≢ t → s < t + size → t < s + size → s % size ≢ t % size
slots_differ size s t ne before after = elim (cases_lt s t) [
  | inl later ↦ later_slot size s t later after
  | inr earlier ↦ (let back : t % size ≢ s % size = later_slot size t s (omega arith) before in λ e. back (sym e))
]
