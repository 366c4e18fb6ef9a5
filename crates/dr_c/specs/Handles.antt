-- What a handle of C owns, and what a call does to it.
use Rattle.std.specs.Prelude.{◌≡◌, ℕ, Option, None, Some}
use mir.Syntax.{Ty}
use base.Fml.{Fml, ftrue}
use denote.RattleType.{RattleType}
use denote.RawPtr.{Ptr}
use Rattle.std_alloc.specs.Box.Ownership.{box_owns}

-- the pointer of a box, or of nothing
abbrev pub held : (Ty → Ptr → Fml) → (R : RattleType) → Ptr → Option R.Denot → Fml
held frees R p None = ftrue
held frees R p (Some x) = box_owns frees R p x

-- the word that says whether a handle has an end
abbrev pub opened : {A : Type 0} → Option A → ℕ
opened None = 0
opened (Some x) = 1

-- a call on what a handle has, before and after; where it has nothing it stays so, and the call is refused
abbrev pub OnHandle : {A : Type 0} → Option A → Option A → Type 0 → (A → A → Type 0) → Type 0
OnHandle None new Refused Call = (new ≡ None) × Refused
OnHandle {A} (Some before) new Refused Call = (after : A) × (new ≡ Some after) × Call before after
