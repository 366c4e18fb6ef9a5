-- What a hold is, by what a call requires of it.
use Rattle.std.specs.Prelude.{◌≡◌, ℕ, ◌+◌, ◌^◌, ◌<◌}
use mathlib.Core.Path.{refl, ap}
use Rattle.dr_cells.specs.Hold.{Hold, blank, whole, part, kept, IsWhole, CanSplit, CanJoin, IsBack}

module _ {X : Type 0} where
  pub whole_of : (h : Hold X) → IsWhole h → (x : X) × (h ≡ whole x)
  whole_of blank void = absurd void
  whole_of (whole x) is = (x, refl)
  whole_of (part r x) void = absurd void
  whole_of (kept r k x) void = absurd void

  pub back_of : (h : Hold X) → IsBack h → (r : ℕ) × (x : X) × (h ≡ kept r 0 x)
  back_of blank void = absurd void
  back_of (whole x) void = absurd void
  back_of (part r x) void = absurd void
  back_of (kept r k x) is = (r, x, ap (λ (n : ℕ). kept r n x) is)

  pub kept_of : (h : Hold X) → CanSplit h → (r : ℕ) × (k : ℕ) × (x : X) × (h ≡ kept r k x) × (k + 1 < 2 ^ 63)
  kept_of blank void = absurd void
  kept_of (whole x) void = absurd void
  kept_of (part r x) void = absurd void
  kept_of (kept r k x) few = (r, k, x, refl, few)

  pub pair_of : (h g : Hold X) → CanJoin h g → (r : ℕ) × (k : ℕ) × (x : X) × (y : X) × (h ≡ kept r k x) × (g ≡ part r y) × (0 < k)
  pair_of blank g void = absurd void
  pair_of (whole x) g void = absurd void
  pair_of (part r x) g void = absurd void
  pair_of (kept r k x) blank is = absurd is.0
  pair_of (kept r k x) (whole y) is = absurd is.0
  pair_of (kept r k x) (part s y) is = (r, k, x, y, refl, ap (λ (n : ℕ). part n y) is.0, is.1)
  pair_of (kept r k x) (kept s j y) is = absurd is.0
