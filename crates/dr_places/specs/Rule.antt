-- The rule of places, in each of which something may be left once.
use Rattle.std.specs.Prelude.{◌≡◌, ℕ, ◌<◌, ◌∷◌, Option, Some, None, length, slice_index}
use mathlib.Core.Option as maybe
use mathlib.Core.Option.{some}
use lib.ListN.{get_elem?}
use Rattle.atomic_table.specs.Table.{State, Me, Step}

-- what the places were told, and how many they are
pub record PlacesOf (K : Type 0) : Type 0 where
  pub key : K
  pub count : ℕ

module _ {L : Type 0} where
  -- a place, by its word and its slot: nobody came, or what lies there belongs there. While somebody puts something there nothing is known
  pub record IsPlace (fits : L → Type 0) (word : ℕ) (home : maybe.Option (maybe.Option (Option L))) : Type 0 where
    pub empty : word ≡ 0 → home ≡ some (some None)
    pub left : word ≡ 2 → (l : L) × (home ≡ some (some (Some l))) × fits l

module _ {L V : Type 0} where
  pub record Keeps (belongs : ℕ → L → Type 0) (s : State (Option L) V) : Type 0 where
    pub wide : length s.words ≡ length s.homes
    pub each : (i : ℕ) → i < length s.homes → IsPlace (belongs i) (slice_index s.words i) (get_elem? s.homes i)

  -- a step that found 0 took the slot of its place, in which nothing lies
  abbrev pub TookEmpty : Step (Option L) → Me (Option L) V → ℕ → Me (Option L) V → Type 0
  TookEmpty s me n me' = n ≡ 0 → me'.1 ≡ (s.word, None) ∷ me.1
