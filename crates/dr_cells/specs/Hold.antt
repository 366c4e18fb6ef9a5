-- What a token says of a cell that holds a value of X.
--     blank           nothing
--     whole x         the cell holds x, and whoever has the token may write it
--     part r x        one part of the lending r: the cell holds x for as long as the part is out
--     kept r k x      what the lender keeps of the lending r while k of its parts are out
use Rattle.std.specs.Prelude.{◌≡◌, ℕ, ◌+◌, ◌-◌, ◌^◌, ◌<◌, ⊤, Option, Some, None, ◌⊎◌}
use mathlib.Core.Path.{refl}
use mathlib.Core.Logic.{inl, inr}
use base.Stored.{coded_unit}
use Rattle.std.specs.Coded.{Coded, code_by, coded×, coded⊎, coded_ℕ}

pub data Hold (X : Type 0) : Type 0 where
  blank : Hold X
  whole : X → Hold X
  part : ℕ → X → Hold X
  kept : ℕ → ℕ → X → Hold X

abbrev Cases : Type 0 → Type 0
Cases X = Unit {0} ⊎ (X ⊎ ((ℕ × X) ⊎ (ℕ × (ℕ × X))))

module _ {X : Type 0} where
  abbrev cases : Hold X → Cases X
  cases blank = inl tt
  cases (whole x) = inr (inl x)
  cases (part r x) = inr (inr (inl (r, x)))
  cases (kept r k x) = inr (inr (inr (r, (k, x))))

  abbrev of_cases : Cases X → Hold X
  of_cases (inl _) = blank
  of_cases (inr (inl x)) = whole x
  of_cases (inr (inr (inl p))) = part p.0 p.1
  of_cases (inr (inr (inr p))) = kept p.0 p.1.0 p.1.1

  pub cases_back : (h : Hold X) → of_cases (cases h) ≡ h
  cases_back blank = refl
  cases_back (whole x) = refl
  cases_back (part r x) = refl
  cases_back (kept r k x) = refl

  abbrev pub coded_hold : Coded X → Coded (Hold X)
  coded_hold c = code_by (Cases X) (coded⊎ coded_unit (coded⊎ c (coded⊎ (coded× coded_ℕ c) (coded× coded_ℕ (coded× coded_ℕ c))))) cases of_cases cases_back

  -- the value that the token's holder may read
  abbrev pub held : Hold X → Option X
  held blank = None
  held (whole x) = Some x
  held (part r x) = Some x
  held (kept r k x) = Some x

  abbrev pub IsHeld : Hold X → Type 0
  IsHeld blank = ⊥
  IsHeld (whole x) = ⊤
  IsHeld (part r x) = ⊤
  IsHeld (kept r k x) = ⊤

  abbrev pub IsWhole : Hold X → Type 0
  IsWhole blank = ⊥
  IsWhole (whole x) = ⊤
  IsWhole (part r x) = ⊥
  IsWhole (kept r k x) = ⊥

  -- a lending begins: r names it
  abbrev pub lent : ℕ → Hold X → Hold X
  lent r blank = blank
  lent r (whole x) = kept r 0 x
  lent r (part s x) = part s x
  lent r (kept s k x) = kept s k x

  -- fewer than 2 ^ 63 parts of a lending are out at a time
  abbrev pub CanSplit : Hold X → Type 0
  CanSplit blank = ⊥
  CanSplit (whole x) = ⊥
  CanSplit (part r x) = ⊥
  CanSplit (kept r k x) = k + 1 < 2 ^ 63

  abbrev pub split : Hold X → Hold X
  split blank = blank
  split (whole x) = whole x
  split (part r x) = part r x
  split (kept r k x) = kept r (k + 1) x

  -- the part that goes out
  abbrev pub one_part : Hold X → Hold X
  one_part blank = blank
  one_part (whole x) = whole x
  one_part (part r x) = part r x
  one_part (kept r k x) = part r x

  abbrev pub IsPartOf : ℕ → Hold X → Type 0
  IsPartOf r blank = ⊥
  IsPartOf r (whole x) = ⊥
  IsPartOf r (part s x) = s ≡ r
  IsPartOf r (kept s k x) = ⊥

  -- the second is a part of the lending that the first keeps, of which some part is out
  abbrev pub CanJoin : Hold X → Hold X → Type 0
  CanJoin blank h = ⊥
  CanJoin (whole x) h = ⊥
  CanJoin (part r x) h = ⊥
  CanJoin (kept r k x) h = IsPartOf r h × (0 < k)

  abbrev pub joined : Hold X → Hold X
  joined blank = blank
  joined (whole x) = whole x
  joined (part r x) = part r x
  joined (kept r k x) = kept r (k - 1) x

  -- each part of the lending is back
  abbrev pub IsBack : Hold X → Type 0
  IsBack blank = ⊥
  IsBack (whole x) = ⊥
  IsBack (part r x) = ⊥
  IsBack (kept r k x) = k ≡ 0

  abbrev pub regained : Hold X → Hold X
  regained blank = blank
  regained (whole x) = whole x
  regained (part r x) = part r x
  regained (kept r k x) = whole x
