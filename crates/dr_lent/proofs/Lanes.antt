-- Sequences less than a round apart have slots of their own in every lane.
use Rattle.std.proofs.Common.{◌≡◌, ◌≢◌, ◌⊎◌, ℕ, suc, ◌+◌, ◌*◌, ◌%◌, ◌<◌, ◌≤◌, inl, inr, ap, arith, suc-mul, mul-le-mul_right}
use Rattle.std.proofs.Math.Nat.{mod-lt, add-mod_left}
use Rattle.std.proofs.lemmas.Bool.{cases_eq, cases_lt}
use Rattle.dr_seq.proofs.Apart.{slots_differ}

-- a lane ends before the next begins
below_next : (n h g x : ℕ) → h < g → x < n → h * n + x < g * n
below_next n h g x lt low = let a : suc h * n ≤ g * n = mul-le-mul_right n lt in omega (arith, suc-mul h n)

lanes_apart : (n h g x y : ℕ) → x < n → y < n → h ≢ g → h * n + x ≢ g * n + y
lanes_apart n h g x y lx ly ne e = elim (cases_lt h g) [
  | inl lt ↦ (let a = below_next n h g x lt lx in omega arith)
  | inr le ↦ (let lt : g < h = omega arith in let a = below_next n g h y lt ly in omega arith)
]

-- a lane has a slot for each cell of a strip of so many
module _ (size : ℕ) where
  pub inside_lanes : (lanes h s : ℕ) → 0 < size → h < lanes → h * size + s % size < lanes * size
  inside_lanes lanes h s some_slot lt = below_next size h lanes (s % size) lt (mod-lt s some_slot)

  pub other_lane : (h g a b : ℕ) → 0 < size → h ≢ g → h * size + a % size ≢ g * size + b % size
  other_lane h g a b some_slot ne = lanes_apart size h g (a % size) (b % size) (mod-lt a some_slot) (mod-lt b some_slot) ne

  -- two lanes, or two sequences less than a round apart
  pub slots_apart : (h g a b : ℕ) → 0 < size → a < b + size → b < a + size → (h ≢ g) ⊎ (a ≢ b) → h * size + a % size ≢ g * size + b % size
  slots_apart h g a b some_slot down up ne e =
      elim (cases_eq h g) [
        | inl same ↦ elim ne [
          | inl other ↦ other same
          | inr other ↦ (let x : ℕ = h * size in let cells : a % size ≡ b % size =
              (let f : h * size ≡ g * size = ap (λ (m : ℕ). m * size) same in omega arith) in slots_differ size a b other down up cells)
        ]
        | inr other ↦ other_lane h g a b some_slot other e
      ]

  -- a round later a sequence has the same cell, and the same slots
  pub cell_later : (s : ℕ) → (size + s) % size ≡ s % size
  cell_later s = add-mod_left size s

  pub slot_later : (h s : ℕ) → h * size + (size + s) % size ≡ h * size + s % size
  slot_later h s = ap (λ (c : ℕ). h * size + c) (cell_later s)
