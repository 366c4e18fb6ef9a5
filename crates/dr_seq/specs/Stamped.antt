-- Slots that were set for a stretch of sequences, a slot a sequence.
use Rattle.std.specs.Prelude.{ℕ, zero, suc, ◌+◌, ◌%◌, List, length, slice_set}

-- the slots of n sequences, from one on, hold a number of each sequence
unfoldable pub stamped : (ℕ → ℕ) → List ℕ → ℕ → ℕ → List ℕ
stamped number slots from zero = slots
stamped number slots from (suc n) = slice_set (stamped number slots from n) ((from + n) % length slots) (number (from + n))
