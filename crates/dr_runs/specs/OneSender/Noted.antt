-- How a sender keeps which of its open sequences are written: all below one, and those past it that are marked in their round.
use Rattle.std.specs.Prelude.{◌≡◌, ℕ, ◌+◌, ◌%◌, ◌<◌, ◌≤◌, ◌⊎◌, ◌||◌, nat_lt, Bool, true, false, length, slice_set}
use Rattle.dr_seq.specs.Rounds.{entry_of, is_marked}
use Rattle.dr_runs.specs.declared.written.Written.{Written}

abbrev pub is_noted : Written → ℕ → Bool
is_noted w s = nat_lt s w.upto || is_marked w.ahead s

-- one that is written next in order moves the count, one past it is marked, and one below it is noted already
abbrev pub Notes : Written → ℕ → Written → Type 0
Notes w s w' =
    ((s ≡ w.upto) × (w' ≡ record w { upto = s + 1 }))
    ⊎ (((w.upto < s) × (w' ≡ record w { ahead = slice_set w.ahead (s % length w.ahead) (entry_of (length w.ahead) s) }))
    ⊎ ((s < w.upto) × (w' ≡ w)))

-- each sequence from lo to hi is noted
abbrev pub AreNoted : Written → ℕ → ℕ → Type 0
AreNoted w lo hi = (s : ℕ) → lo ≤ s → s ≤ hi → is_noted w s ≡ true

-- one of them is not
abbrev pub HasUnnoted : Written → ℕ → ℕ → Type 0
HasUnnoted w lo hi = (s : ℕ) × (lo ≤ s) × (s ≤ hi) × (is_noted w s ≡ false)
