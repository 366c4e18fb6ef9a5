use Rattle.std.proofs.Common.{◌∙◌, None, ap, suc}
use Rattle.dr_meaning.specs.declared.command.Command.TheVariants.{Halt}
use Rattle.dr_lock.specs.Calls.Lock.{after_call}
use Rattle.dr_lock.proofs.Asking.{lacking_more}
use Rattle.dr_lock.proofs.halting.halt.Goals as goal

pub loop-preserved : goal.loop-preserved
loop-preserved g c =
    let was = c.loop.invariant in
    (tt, tt, suc was.2, c.in-Err.ensures.end ∙ ap (λ e. after_call Halt None e) was.3 ∙ lacking_more was.2 c.args.end.now)
