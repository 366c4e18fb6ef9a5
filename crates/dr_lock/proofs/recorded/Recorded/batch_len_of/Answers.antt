use Rattle.std.proofs.Common.{◌≡◌, min, sym, ◌∙◌, inl, inr, length, arith}
use Rattle.dr_meaning.specs.declared.command.Command.TheVariants.{Poll}
use Rattle.dr_meaning.specs.Meaning.Machine.{step}
use Rattle.dr_core.proofs.Ready.{ready_refused}
use Rattle.dr_core.proofs.Shown.{same_retired}
use Rattle.dr_lock.proofs.Counts.{stranger_gives, retired_gives, other_gives}
use Rattle.dr_lock.proofs.recorded.Recorded.batch_len_of.Goals as goal

pub returns-in-Ok : goal.returns-in-Ok
returns-in-Ok g c =
    rw (← c.self.view_is, c.in-Poll.is) (λ m shows.
    let setup = c.self.inside.core.setup in
    let gives : length (step setup m (Poll c.in-Poll.h c.in-Poll.max)).values ≡ min c.in-Ok.ready c.in-Poll.max = c.in-Ok.ensures.gives m c.in-Poll.max shows in
    omega (arith, c.min.ensures))

pub returns-in-Err : goal.returns-in-Err
returns-in-Err g c =
    rw (← c.self.view_is, c.in-Poll.is) (λ m shows.
    let core = c.self.inside.core in
    let h = c.in-Poll.h in
    elim (ready_refused core h c.in-Err.field-0 c.in-Err.ensures.answer) [
      | inl stranger ↦ sym (stranger_gives core.setup m h c.in-Poll.max stranger)
      | inr gone ↦ sym (retired_gives core.setup m h c.in-Poll.max (same_retired shows h ∙ gone))
    ])

pub returns-in_default : goal.returns-in_default
returns-in_default g c =
    rw (← c.self.view_is) (λ m shows. sym (other_gives c.self.inside.core.setup m c.args.command c.in_default.not-Poll))
