-- Where a producer's writes are refused.
use Rattle.std.specs.Prelude.{ℕ, ◌+◌, ◌<◌, ◌≤◌, ◌⊎◌, length, Option, None, Some}
use Rattle.dr_meaning.specs.Calls.Ends.{Sent, claimed_in}

-- a sequence of a stretch of n is not claimed, or is published
pub record HasClosed {E : Type 0} (lo n : ℕ) (e : Sent E) : Type 0 where
  pub sequence : ℕ
  pub first : lo ≤ sequence
  pub last : sequence < lo + n
  pub closed : (claimed_in e ≤ sequence) ⊎ (sequence < length e.published)

-- an end that shows what it sent is refused a write to a stretch only there
abbrev pub MayRefuse : {E : Type 0} → ℕ → ℕ → Option (Sent E) → Type 0
MayRefuse lo n None = Unit {0}
MayRefuse lo n (Some e) = HasClosed lo n e
