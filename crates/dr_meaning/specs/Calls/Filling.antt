-- What a closure leaves of an event that it fills.
use Rattle.std.specs.Prelude.{◌≡◌, ℕ}
use denote.Ref.{MutBor}
use denote.Param.Members.{Mut, Shared}
use Rattle.std.specs.Fn.{CalledWithState}

-- a call of a closure at a `&mut` to what lay in a cell and at a number may leave this there
pub record FillsOne {F E : Type 0} (g : Shared F (MutBor E × (ℕ × Unit {0})) (Unit {0} × (MutBor E × Unit {0}))) (fill : F) (number : ℕ) (was now : E) : Type 0 where
  pub shown : MutBor E
  pub shows : shown.now ≡ was
  pub left : MutBor E
  pub met : g.post fill (shown, (number, tt)) (tt, (left, tt))
  pub leaves : left.now ≡ now

-- and a call that leaves the closure so
abbrev pub FillsFrom : {F E : Type 0} → Mut F (MutBor E × (ℕ × Unit {0})) (Unit {0} × (MutBor E × Unit {0})) → F → ℕ → E → F → E → Type 0
FillsFrom g fill number was left now = CalledWithState g fill was number tt left now
