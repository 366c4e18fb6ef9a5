use Rattle.std.proofs.Common.{◌≡◌, replicate}
use Rattle.dr_cells.specs.Tokens.{no_token}
use Rattle.dr_lent.proofs.rows.blanks.Given as goal

abbrev pub invariant-loop-made : goal.invariant-loop-made
invariant-loop-made g l = l.tokens.items ≡ replicate l.made no_token
