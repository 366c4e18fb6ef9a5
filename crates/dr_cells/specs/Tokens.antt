-- What a clause says of a whole token.
use Rattle.std.specs.Prelude.{◌≡◌, ℕ, length}
use denote.RawPtr.{Ptr, null_ptr}
use Rattle.dr_cells.specs.Hold.{Hold, blank}
use Rattle.dr_cells.specs.declared.row.Row.{Row}
use Rattle.dr_cells.specs.declared.token.Token.{Token}

module _ {X : Type 0} where
  abbrev pub with_hold : Token X → Hold X → Token X
  with_hold t h = record { mark = t.mark; strip = t.strip; cell = t.cell; hold = h }

  -- the token of the cell i of the strip s that says h
  abbrev pub token_at : Ptr → ℕ → Hold X → Token X
  token_at s i h = record { mark = record {}; strip = s; cell = i; hold = h }

  -- the token that says nothing, of no cell
  abbrev pub no_token : Token X
  no_token = token_at null_ptr 0 blank

  -- the token is one of the cell i of the strip s
  abbrev pub IsOf : Ptr → ℕ → Token X → Type 0
  IsOf s i t = (t.strip ≡ s) × (t.cell ≡ i)

  -- the row is all the n cells of the strip s
  abbrev pub IsAll : Ptr → ℕ → Row X → Type 0
  IsAll s n r = (r.strip ≡ s) × (r.from ≡ 0) × (length r.items ≡ n)
