-- In which round of the ring each slot was last marked.
use Rattle.std.specs.Prelude.{◌≡◌, ℕ, ◌+◌, ◌/◌, ◌%◌, ◌<◌, ◌≤◌, Bool, true, false, ◌==◌, List, length, slice_index}

-- what a mark of a sequence enters: its round plus one, since 0 means never
abbrev pub entry_of : ℕ → ℕ → ℕ
entry_of size s = s / size + 1

-- a sequence is marked where the entry in its slot is of its round
abbrev pub is_marked : List ℕ → ℕ → Bool
is_marked entries s = slice_index entries (s % length entries) == entry_of (length entries) s

-- the first sequence from one on that is not marked, or the end
pub record IsFront (marked : ℕ → Bool) (from to front : ℕ) : Type 0 where
  pub low : from ≤ front
  pub high : front ≤ to
  pub below : (s : ℕ) → from ≤ s → s < front → marked s ≡ true
  pub here : front < to → marked front ≡ false
