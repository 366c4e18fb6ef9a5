-- A sender's token of a cell, of which n parts are out.
use Rattle.std.proofs.Common.{ℕ}
use Rattle.dr_cells.specs.declared.token.Token.{Token}
use Rattle.dr_cells.specs.Hold.{kept}
use Rattle.dr_cells.specs.Tokens.{token_at}
use Rattle.dr_lent.specs.declared.lent.Lent.{Lent}
use Rattle.dr_plain_senders.specs.Meaning.Shape.{Shape}
use Rattle.dr_plain_senders.specs.Meaning.Words.{cell_of}

module _ {T : Type 0} where
  abbrev pub out : Shape T → ℕ → ℕ → Lent T → Token T
  out k s n m = token_at k.strip (cell_of k s) (kept m.round n m.event)
