-- What a token ends as, once a `&mut` into its cell has ended.
use Rattle.std.specs.Borrow.{Fml, RattleType, MutBor, Lends}
use Rattle.dr_cells.specs.Hold.{whole}
use Rattle.dr_cells.specs.Tokens.{with_hold}
use Rattle.dr_cells.specs.declared.token.Token.{Token}
use Rattle.dr_cells.specs.contracts.token.Token.{the_row}

abbrev pub lends_cell : (R : RattleType) → MutBor (Token R.Denot) → MutBor R.Denot → Fml
lends_cell R t r = Lends (the_row R) R t r (λ w. with_hold t.now (whole w))
