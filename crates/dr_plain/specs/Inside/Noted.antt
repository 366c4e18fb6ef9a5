-- What is noted of a sender's open sequences, and what then is written of them.
use Rattle.std.specs.Prelude.{◌≡◌, ℕ, zero, suc, ◌+◌, ◌%◌, ◌≤◌, false, if◌then◌else◌, List, [], ◌∷◌, length, slice_index_or, Option, None}
use Rattle.dr_seq.specs.Rounds.{is_marked}
use Rattle.dr_runs.specs.declared.written.Written.{Written}
use Rattle.dr_runs.specs.OneSender.Noted.{is_noted}

-- nothing is noted of what is not claimed
pub record Noted (size claims : ℕ) (w : Written) : Type 0 where
  pub slots : length w.ahead ≡ size
  pub upto : w.upto ≤ claims
  pub fresh : (s : ℕ) → claims ≤ s → is_marked w.ahead s ≡ false

-- what is written of each of n sequences from s on, where this lies in the cells
abbrev pub writes_from : {T : Type 0} → Written → List (Option T) → ℕ → ℕ → List (Option T)
writes_from w cells s zero = []
writes_from w cells s (suc n) = (if is_noted w s then slice_index_or cells (s % length cells) None else None) ∷ writes_from w cells (s + 1) n
