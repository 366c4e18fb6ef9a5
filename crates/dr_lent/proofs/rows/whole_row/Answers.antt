use Rattle.std.proofs.Common.{List, arith, sym, ap, subst, ◌∙◌}
use Rattle.dr_cells.specs.declared.token.Token.{Token}
use Rattle.dr_cells.specs.Hold.{IsWhole}
use Rattle.dr_lent.proofs.Rowed.{Rowed, rowed_none, rowed_more, rowed_all, rowed_next}
use Rattle.dr_lent.proofs.rows.whole_row.Goals as goal

pub loop-place-init : goal.loop-place-init
loop-place-init g c = (
  c.none-row.ensures.0,
  c.none-row.ensures.1,
  subst (λ (xs : List g.row.T.Denot). Rowed c.args.cells.ptr 0 c.args.tokens.items c.args.tokens.items xs) (sym c.none-row.ensures.2)
      (rowed_none c.args.cells.ptr c.args.tokens.items),
)

pub put_at-token-requires : goal.put_at-token-requires
put_at-token-requires g c =
    let R = c.loop-place.invariant.2 in let count = R.count in let lt = c.loop-place-test.true in
    let end = c.loop-place.auto.place-end in let len = c.len-place-end.ensures in omega arith

pub give-requires : goal.give-requires
give-requires g c =
    let inv = c.loop-place.invariant in let R = inv.2 in let many = R.many in let from = inv.1 in
    let t = rowed_next c.args.cells.ptr c.loop-place.place _ _ _ _ R c.requires c.put_at-token.ensures.was in (
      (ap (λ (x : Token g.row.T.Denot). x.strip) t.1 ∙ sym inv.0, ap (λ (x : Token g.row.T.Denot). x.cell) t.1 ∙ (omega arith)),
      subst (λ (x : Token g.row.T.Denot). IsWhole x.hold) (sym t.1) tt,
    )

pub loop-place-preserved : goal.loop-place-preserved
loop-place-preserved g c =
    let inv = c.loop-place.invariant in let last = c.give.ensures.last in (
      c.give.ensures.row.0 ∙ inv.0,
      c.give.ensures.row.1 ∙ inv.1,
      rowed_more _ c.loop-place.place _ _ _ _ _ _ _ last.0 inv.2 c.put_at-token.ensures.was last.1 last.2 c.put_at-token.ensures.row,
    )

pub returns-clause-all : goal.returns-clause-all
returns-clause-all g c =
    let inv = c.loop-place.invariant in let R = inv.2 in let many = R.many in let over = c.loop-place-test.false in
    let end = c.loop-place.auto.place-end in let len = c.len-place-end.ensures in
    (inv.0, inv.1, omega arith)

pub returns-clause-items : goal.returns-clause-items
returns-clause-items g c =
    let inv = c.loop-place.invariant in let over = c.loop-place-test.false in let end = c.loop-place.auto.place-end in let len = c.len-place-end.ensures in
    rowed_all c.args.cells.ptr c.loop-place.place _ _ _ inv.2 (omega arith)
