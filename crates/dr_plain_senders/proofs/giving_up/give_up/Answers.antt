use Rattle.std.proofs.Common.{ℕ, List, length, sym, ap, subst, ◌∙◌}
use Rattle.dr_cells.specs.declared.token.Token.{Token}
use Rattle.dr_cells.specs.Tokens.{IsAll}
use Rattle.dr_lent.specs.Rows.{AreAllWhole}
use Rattle.dr_plain_senders.proofs.Untouched.{first_whole, length_take}
use Rattle.dr_plain_senders.proofs.giving_up.give_up.Goals as goal

pub whole_row-row-requires : goal.whole_row-row-requires
whole_row-row-requires g c =
    subst (λ (ts : List (Token g.row.T.Denot)). AreAllWhole c.args.strip.cells.ptr ts) (sym c.truncate.ensures.items)
    (first_whole c.args.strip.cells.ptr c.args.strip.len c.args.tokens.items c.requires)

pub close-requires : goal.close-requires
close-requires g c =
    subst (λ (n : ℕ). IsAll c.args.strip.cells.ptr n c.whole_row-row.result)
    (ap (λ (ts : List (Token g.row.T.Denot)). length ts) c.truncate.ensures.items ∙ length_take c.args.strip.len c.args.tokens.items c.requires.count)
    c.whole_row-row.ensures.all
