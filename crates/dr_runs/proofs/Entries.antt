-- The poll that hands out events: some, or none.
use Rattle.std.proofs.Common.{◌≡◌, ℕ, ◌+◌, ◌<◌, ◌==◌, List, [], ◌∷◌, length, refl, arith}
use Rattle.dr_meaning.specs.declared.command.Command.TheVariants.{Poll}
use Rattle.dr_meaning.specs.declared.command.Reply.TheVariants.{Batch}
use Rattle.dr_runs.specs.Entries.{entry, poll_of}

module _ {T : Type 0} where
  pub poll_none : (h taken : ℕ) (es : List T) (to : ℕ) → length es ≡ 0 → poll_of h taken es to ≡ []
  poll_none h taken [] to none = refl
  poll_none h taken (e ∷ es) to none = absurd (omega arith)

  pub poll_some : (h taken : ℕ) (es : List T) (to n : ℕ) → length es ≡ n → 0 < n → poll_of h taken es to ≡ entry (Poll h n) (Batch taken n (taken + n == to)) es
  poll_some h taken [] to n is some_one = absurd (omega arith)
  poll_some h taken (e ∷ es) to n is some_one = λ i. entry (Poll h (is i)) (Batch taken (is i) (taken + is i == to)) (e ∷ es)
