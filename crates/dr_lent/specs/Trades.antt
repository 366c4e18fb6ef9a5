-- Parts of lent events in the places of their cells, as loops over sequences put them there and take them.
use Rattle.std.specs.Prelude.{◌≡◌, ◌≢◌, ℕ, ◌%◌, ◌<◌, ◌≤◌, List, length}
use mathlib.Core.Option.{some}
use lib.ListN.{get_elem?}
use denote.RawPtr.{Ptr}
use Rattle.dr_cells.specs.declared.token.Token.{Token}
use Rattle.dr_cells.specs.Hold.{part}
use Rattle.dr_cells.specs.Tokens.{token_at}
use Rattle.dr_lent.specs.declared.lent.Lent.{Lent}

module _ {T : Type 0} where
  -- a part of what was lent in a sequence's cell, of a strip of so many
  abbrev pub part_in : Ptr → ℕ → ℕ → Lent T → Token T
  part_in strip size s l = token_at strip (s % size) (part l.round l.event)

  -- the parts of the events of some sequences stand in the places of their cells, and all others as before
  pub record PartsTaken (strip : Ptr) (size : ℕ) (received : List (Lent T)) (first upto : ℕ) (parts parts' : List (Token T)) : Type 0 where
    pub count : length parts' ≡ length parts
    pub taken : (s : ℕ) (l : Lent T) → first ≤ s → s < upto → get_elem? received s ≡ some l
        → get_elem? parts' (s % size) ≡ some (part_in strip size s l)
    pub others : (i : ℕ) → ((s : ℕ) → first ≤ s → s < upto → s % size ≢ i) → get_elem? parts' i ≡ get_elem? parts i

  -- the parts of the events of some sequences stand in the places of their cells
  abbrev pub ArePartsBetween : Ptr → ℕ → List (Lent T) → ℕ → ℕ → List (Token T) → Type 0
  ArePartsBetween strip size received first upto parts = (s : ℕ) (l : Lent T) → first ≤ s → s < upto → get_elem? received s ≡ some l
      → get_elem? parts (s % size) ≡ some (part_in strip size s l)

  -- as many, and the same in each place that is none of these cells
  pub record SamePlaces (size first upto : ℕ) (parts parts' : List (Token T)) : Type 0 where
    pub count : length parts' ≡ length parts
    pub others : (i : ℕ) → ((s : ℕ) → first ≤ s → s < upto → s % size ≢ i) → get_elem? parts' i ≡ get_elem? parts i
