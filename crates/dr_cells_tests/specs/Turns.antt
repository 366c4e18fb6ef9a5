-- A table of one word and one slot: the token of a strip's first cell lies in the slot while the word is 1.
use Rattle.std.specs.Prelude.{◌≡◌, ◌≢◌, ℕ, List, [], ◌∷◌}
use mathlib.Core.Option.{Option, some}
use lib.ListN.{get_elem?}
use Rattle.atomic_table.specs.Table.{State, Me}
use Rattle.atomic_table.specs.Seated.{TableId}
use Rattle.dr_cells.specs.Hold.{IsWhole}
use Rattle.dr_cells.specs.Tokens.{IsOf}
use Rattle.dr_cells.specs.declared.cells.Cells.{Cells}
use Rattle.dr_cells.specs.declared.token.Token.{Token}

abbrev pub IsSmall : TableId → Type 0
IsSmall i = (i.words ≡ 1) × (i.slots ≡ 1)

module _ {X : Type 0} where
  -- the whole token of the first cell
  abbrev pub IsFirst : Cells X → Token X → Type 0
  IsFirst c t = IsOf c.ptr 0 t × IsWhole t.hold

  pub record Holds (c : Cells X) (s : State (Token X) (Cells X)) : Type 0 where
    pub word : ℕ
    pub home : Option (Token X)
    pub one_word : s.words ≡ word ∷ []
    pub one_home : s.homes ≡ home ∷ []
    pub lies : word ≡ 1 → (t : Token X) × (home ≡ some t) × IsFirst c t
    pub views : (k : ℕ) (v : Cells X) → get_elem? s.views k ≡ some v → v ≡ c

  -- whoever found 1 has the token in hand, and nobody else has anything
  abbrev pub Taken : Cells X → ℕ → List (ℕ × Token X) → Type 0
  Taken c found hand = (found ≡ 1 → (t : Token X) × (hand ≡ (0, t) ∷ []) × IsFirst c t) × (found ≢ 1 → hand ≡ [])

  -- a seat with nothing in hand
  abbrev pub Waits : Cells X → Me (Token X) (Cells X) → Type 0
  Waits c me = me ≡ (c, [])
