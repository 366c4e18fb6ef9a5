-- What lies in rows of tokens, one a cell.
use Rattle.std.specs.Prelude.{◌≡◌, ℕ, ◌≤◌, List, length, map, Option}
use mathlib.Core.Option.{some}
use lib.ListN.{get_elem?}
use denote.RawPtr.{Ptr}
use Rattle.dr_cells.specs.declared.token.Token.{Token}
use Rattle.dr_cells.specs.Hold.{whole, held}
use Rattle.dr_cells.specs.Tokens.{token_at}

module _ {T : Type 0} where
  -- what lies in the cells
  abbrev pub cells_of : List (Token T) → List (Option T)
  cells_of tokens = map (λ (t : Token T). held t.hold) tokens

  -- every cell of a strip is whole
  abbrev pub AreAllWhole : Ptr → List (Token T) → Type 0
  AreAllWhole strip tokens = (i : ℕ) (t : Token T) → get_elem? tokens i ≡ some t → (x : T) × (t ≡ token_at strip i (whole x))

  -- the tokens of the first n cells of a strip are dealt, and stand before all others
  pub record IsDealt (strip : Ptr) (n : ℕ) (events : List T) (tokens tokens' : List (Token T)) : Type 0 where
    pub count : length tokens' ≡ length tokens
    pub each : (i : ℕ) (x : T) → get_elem? events i ≡ some x → get_elem? tokens' i ≡ some (token_at strip i (whole x))
    pub others : (i : ℕ) → n ≤ i → get_elem? tokens' i ≡ get_elem? tokens i
