use Rattle.std.proofs.Common.{ℕ, ◌+◌, arith, ap, ◌∙◌}
use Rattle.dr_lent.proofs.Dealing.{dealt_none, dealt_more, all_dealt, token_is}
use Rattle.dr_lent.proofs.rows.deal.Goals as goal

pub loop-place-init : goal.loop-place-init
loop-place-init g c = (c.requires.0.0, c.requires.0.1, dealt_none _ _ _ _ c.requires.0.2)

pub take-requires : goal.take-requires
take-requires g c = let D = c.loop-place.invariant.2 in let many = D.many in let lt = c.loop-place-test.true in omega arith

pub put_at-requires : goal.put_at-requires
put_at-requires g c = let D = c.loop-place.invariant.2 in let count = D.count in let lt = c.loop-place-test.true in let room = c.requires.1 in omega arith

pub loop-place-preserved : goal.loop-place-preserved
loop-place-preserved g c =
    let inv = c.loop-place.invariant in let first = c.take.ensures.first in (
      c.take.ensures.rest.0 ∙ inv.0,
      c.take.ensures.rest.1 ∙ ap (λ (n : ℕ). n + 1) inv.1,
      dealt_more _ _ c.loop-place.place _ _ _ _ _ _ _ first.0 c.requires.1 inv.2 first.1
          (token_is _ _ _ _ (first.2.0 ∙ inv.0, first.2.1 ∙ inv.1) first.3) c.put_at.ensures.row,
    )

pub returns : goal.returns
returns g c =
    let many = c.requires.0.2 in let D = c.loop-place.invariant.2 in let left = D.many in
    let done = c.loop-place-test.false in let end = c.loop-place.auto.place-end in
    all_dealt _ _ c.loop-place.place _ _ _ _ (omega arith) many D
