-- The sender's token of a cell, of which n parts are out.
use Rattle.std.proofs.Common.{◌≡◌, ℕ, Some, ap}
use Rattle.dr_cells.specs.declared.token.Token.{Token}
use Rattle.dr_cells.specs.Hold.{kept}
use Rattle.dr_cells.specs.Tokens.{token_at}
use Rattle.dr_lent.specs.declared.lent.Lent.{Lent}
use Rattle.dr_plain.specs.Meaning.Shape.{Shape}
use Rattle.dr_plain.specs.Meaning.Words.{cell_of}
use Rattle.dr_plain.specs.Inside.Hands.{lent_by}

module _ {T : Type 0} where
  abbrev pub out : Shape → ℕ → ℕ → Lent T → Token T
  out k s n m = token_at k.strip (cell_of k s) (kept m.round n m.event)

  pub lending_by : (k : Shape) (s : ℕ) (t : Token T) (n : ℕ) (m : Lent T) → t ≡ out k s n m → lent_by t.hold ≡ Some m
  lending_by k s t n m is = ap (λ (x : Token T). lent_by x.hold) is
