use Rattle.std.proofs.Common.{◌<◌, List, set, ap, ◌∙◌, length-set, length, arith}
use Rattle.dr_cells.specs.declared.token.Token.{Token}
use Rattle.dr_runs.proofs.Elements.{at_below}
use Rattle.dr_lent.proofs.Lists.{set_twice}
use Rattle.dr_lent.proofs.rows.join_at.Goals as goal

pub put_at-token-requires : goal.put_at-token-requires
put_at-token-requires g c = at_below _ _ _ c.requires.1

pub put_at-requires : goal.put_at-requires
put_at-requires g c =
    let new = ap length c.put_at-token.ensures.row ∙ length-set c.args.tokens.now.items c.args.place c.blank.result in
    let lt : c.args.place < length c.args.tokens.now.items = at_below _ _ _ c.requires.1 in omega arith

pub returns : goal.returns
returns g c =
    let put = c.put_at.ensures.row ∙ ap (λ (xs : List (Token g.row.T.Denot)). set xs c.args.place c.join.new.self) c.put_at-token.ensures.row
    ∙ set_twice c.args.tokens.now.items c.args.place c.blank.result c.join.new.self in
    (c.put_at-token.result, c.put_at-token.ensures.was, put ∙ ap (λ (t : Token g.row.T.Denot). set c.args.tokens.now.items c.args.place t) c.join.ensures)
