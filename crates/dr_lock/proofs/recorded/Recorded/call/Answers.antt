use Rattle.std.proofs.Common.{◌≡◌, ◌≤◌, List, arith, ℕ, length, take, sym, ◌∙◌}
use Rattle.std.proofs.lemmas.List.{length-take-le}
use Rattle.dr_meaning.specs.Meaning.Runs.{count_in}
use Rattle.dr_lock.proofs.Counts.{offers_le_asked}
use Rattle.dr_lock.proofs.Recording.{recorded_same, recorded_more, answered}
use Rattle.dr_lock.proofs.recorded.Recorded.call.Goals as goal

pub invariant_of-self-else-is_kept : goal.invariant_of-self-else-is_kept
invariant_of-self-else-is_kept g c =
    rw (c.reserve.ensures.items, c.reserve-2.ensures.items) (recorded_same _ _ _ _ _ _ _ (sym c.is_kept.ensures ∙ c.if-is_kept.false) c.execute-reply.ensures.step c.self.invariant)

fits_within : {E : Type 0} (k offers asked : ℕ) (before after : List E) (n : ℕ) → k ≤ offers → offers ≤ asked → asked ≤ length before
    → length after ≡ length before → k ≤ length after
fits_within k offers asked before after n a b d e = omega arith

pub invariant_of-self-in-Continue-branch-3 : goal.invariant_of-self-in-Continue-branch-3
invariant_of-self-in-Continue-branch-3 g c =
    let fits : count_in c.execute-reply.result ≤ length c.execute-reply.new.out = fits_within _ _ _ c.args.out.now c.execute-reply.new.out 0 c.execute-reply.ensures.fits (offers_le_asked c.args.command c.self.inside.core.setup.size) c.requires c.execute-reply.auto.out in
    let many : length (take (count_in c.execute-reply.result) c.execute-reply.new.out) ≡ count_in c.execute-reply.result = length-take-le _ _ fits in
    rw (c.in_ok-extend_from_slice.ensures.items, c.push_reserved.ensures.items, c.reserve.ensures.items, c.reserve-2.ensures.items, c.count.ensures)
    (recorded_more c.every_step_leads_on.ensures _ _ _ _ _ _ _ (sym c.is_kept.ensures ∙ c.if-is_kept.true) many c.execute-reply.ensures.step c.self.invariant)

pub returns-else-is_kept-clause-fits : goal.returns-else-is_kept-clause-fits
returns-else-is_kept-clause-fits g c =
    fits_within _ _ _ c.args.out.now c.execute-reply.new.out 0 c.execute-reply.ensures.fits (offers_le_asked c.args.command c.self.inside.core.setup.size) c.requires c.execute-reply.auto.out

pub returns-in_ok-extend_from_slice-clause-fits : goal.returns-in_ok-extend_from_slice-clause-fits
returns-in_ok-extend_from_slice-clause-fits g c =
    fits_within _ _ _ c.args.out.now c.execute-reply.new.out 0 c.execute-reply.ensures.fits (offers_le_asked c.args.command c.self.inside.core.setup.size) c.requires c.execute-reply.auto.out

pub returns-else-is_kept-clause-answer : goal.returns-else-is_kept-clause-answer
returns-else-is_kept-clause-answer g c = rw (← c.self.view_is) (answered _ _ _ _ _ _ _ c.execute-reply.ensures.step c.self.invariant)

pub returns-in_ok-extend_from_slice-clause-answer : goal.returns-in_ok-extend_from_slice-clause-answer
returns-in_ok-extend_from_slice-clause-answer g c = rw (← c.self.view_is) (answered _ _ _ _ _ _ _ c.execute-reply.ensures.step c.self.invariant)
