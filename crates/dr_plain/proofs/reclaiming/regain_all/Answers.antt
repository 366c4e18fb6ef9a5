use Rattle.std.proofs.Common.{ℕ, ◌%◌, arith, refl, ap, ◌∙◌}
use lib.ListN.{get_elem?}
use Rattle.dr_runs.proofs.Elements.{there}
use Rattle.dr_lent.proofs.Tokens.{is_back}
use Rattle.dr_plain.specs.Meaning.Words.{cell_of}
use Rattle.dr_plain.proofs.Returning.{whole_next, whole_cells, whole_all}
use Rattle.dr_plain.proofs.reclaiming.regain_all.Goals as goal

pub loop-sequence-init : goal.loop-sequence-init
loop-sequence-init g c = (c.requires.back, refl)

pub regain_at-requires : goal.regain_at-requires
regain_at-requires g c =
    let inv = c.loop-sequence.invariant in let A = inv.0.1 in let s = c.loop-sequence.sequence in let count = A.count in let lt = c.loop-sequence-test.true in
    let l = there inv.0.0 s (omega arith) in let at = A.out s l.0 (omega arith) l.1 in
    let place = c.slot-place.ensures ∙ ap (λ (n : ℕ). s % n) c.size.ensures in (
      _,
      ap (λ (n : ℕ). get_elem? c.loop-sequence.tokens.items n) place ∙ at,
      is_back c.args.plan.now.strip (cell_of c.args.plan.now s) _ 0 l.0 refl refl,
    )

pub loop-sequence-preserved : goal.loop-sequence-preserved
loop-sequence-preserved g c =
    let inv = c.loop-sequence.invariant in let A = inv.0.1 in let s = c.loop-sequence.sequence in let count = A.count in let lt = c.loop-sequence-test.true in
    let l = there inv.0.0 s (omega arith) in let new = c.regain_at.ensures in let place = c.slot-place.ensures ∙ ap (λ (n : ℕ). s % n) c.size.ensures in (
      (inv.0.0, whole_next _ s c.args.upto c.slot-place.result inv.0.0 _ _ new.0 l.0 A (omega arith) place l.1 new.1 new.2),
      whole_cells _ _ c.slot-place.result new.0 new.1 new.2 ∙ inv.1,
    )

pub returns-clause-whole : goal.returns-clause-whole
returns-clause-whole g c = let inv = c.loop-sequence.invariant in let over = c.loop-sequence-test.false in whole_all _ c.loop-sequence.sequence c.args.upto inv.0.0 _ inv.0.1 (omega arith)
