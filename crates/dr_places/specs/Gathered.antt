-- What was left, as it lies in the slots.
use Rattle.std.specs.Prelude.{◌≡◌, ℕ, ◌<◌, ◌≤◌, nat_lt, false, List, [], ◌∷◌, Option, Some, None, length, slice_index, slice_index_or}
use Rattle.core.specs.Mem.Slots.{slots_filled, slots_items, slots_len}
use Rattle.core.specs.declared.slots.Slots.{Slots}
use mathlib.Core.Option.{some}
use lib.ListN.{get_elem?}

-- each word says that something was left
abbrev pub AreLeft : List ℕ → Type 0
AreLeft words = (i : ℕ) → i < length words → slice_index words i ≡ 2

module _ {L : Type 0} where
  abbrev pub somes : List (Option L) → List L
  somes [] = []
  somes (None ∷ xs) = somes xs
  somes (Some x ∷ xs) = x ∷ somes xs

  -- each of them is there
  abbrev pub AreSome : List (Option L) → Type 0
  AreSome xs = (i : ℕ) → i < length xs → (l : L) × (get_elem? xs i ≡ some (Some l))

  -- what lies in the first slots is there, and the others are empty
  pub record AreThere (slots : Slots (Option L)) (count : ℕ) : Type 0 where
    pub within : count ≤ slots_len slots
    pub filled : (k : ℕ) → k < slots_len slots → slice_index_or (slots_filled slots) k false ≡ nat_lt k count
    pub each : AreSome (slots_items slots)
