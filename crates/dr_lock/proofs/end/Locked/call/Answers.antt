use Rattle.std.proofs.Common.{◌≤◌, length, subst, sym}
use Rattle.std.proofs.lemmas.List.{length-take-le}
use Rattle.dr_lock.proofs.Going.{answered_since}
use Rattle.dr_lock.proofs.end.Locked.call.Goals as goal

pub slice_bounds-receive_all-end : goal.slice_bounds-receive_all-end
slice_bounds-receive_all-end g c = subst (λ n. n ≤ length c.call.new.out) (sym c.count-in-Ok.ensures) c.in-Ok.ensures.fits

pub slice_bounds-receive_all-end-in-Ok : goal.slice_bounds-receive_all-end-in-Ok
slice_bounds-receive_all-end-in-Ok g c =
    sym (length-take-le c.count-in-Ok.result c.call.new.out (subst (λ n. n ≤ length c.call.new.out) (sym c.count-in-Ok.ensures) c.in-Ok.ensures.fits))

pub returns-after-is_kept-clause-answer : goal.returns-after-is_kept-clause-answer
returns-after-is_kept-clause-answer g c = answered_since _ _ _ _ _ c.args.self.now.goes_on c.in-Ok.ensures.answer
