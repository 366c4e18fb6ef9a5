-- A list of what was chosen for each element of another.
use Rattle.std.proofs.Common.{◌≡◌, ℕ, zero, suc, List, [], ◌∷◌, length, refl, sym, ap, subst}
use mathlib.Core.Option.{some, some-injective, some-ne-none}
use lib.ListN.{get_elem?}

-- it has at each place what was chosen there
pub record Chosen {X Y : Type 0} (ys : List Y) (Fits : ℕ → Y → X → Type 0) : Type 0 where
  pub list : List X
  pub many : length list ≡ length ys
  pub each : (k : ℕ) (y : Y) → get_elem? ys k ≡ some y → (x : X) × (get_elem? list k ≡ some x) × Fits k y x

one_more : {X Y : Type 0} (y : Y) (ys : List Y) (Fits : ℕ → Y → X → Type 0) (x : X) (xs : List X) → Fits 0 y x
    → ((k : ℕ) (z : Y) → get_elem? ys k ≡ some z → (w : X) × (get_elem? xs k ≡ some w) × Fits (suc k) z w)
    → (k : ℕ) (z : Y) → get_elem? (y ∷ ys) k ≡ some z → (w : X) × (get_elem? (x ∷ xs) k ≡ some w) × Fits k z w
one_more y ys Fits x xs first rest zero z at = (x, refl, subst (λ v. Fits 0 v x) (some-injective y z at) first)
one_more y ys Fits x xs first rest (suc k) z at = rest k z at

pub chosen : {X Y : Type 0} (ys : List Y) (Fits : ℕ → Y → X → Type 0) → ((k : ℕ) (y : Y) → get_elem? ys k ≡ some y → (x : X) × Fits k y x) → Chosen ys Fits
chosen [] Fits choice = record { list = []; many = refl; each = λ k y at. absurd (some-ne-none y (sym at)) }
chosen (y ∷ ys) Fits choice =
    let first = choice 0 y refl in
    let rest = chosen ys (λ k z x. Fits (suc k) z x) (λ k z at. choice (suc k) z at) in
    record { list = first.0 ∷ rest.list; many = ap suc rest.many; each = one_more y ys Fits first.0 rest.list first.1 rest.each }
