use Rattle.std.proofs.Common.{◌≡◌, None, All, subst, ◌∙◌}
use Rattle.dr_workers.specs.declared.ended.Ended.{Ended}
use Rattle.dr_replay.proofs.Numbered.{lock_fine}
use Rattle.dr_replay.proofs.lock.check.Goals as goal

pub returns-clause-producers : goal.returns-clause-producers
returns-clause-producers c =
    lock_fine c.args.journal c.args.replica c.args.business c.args.producers.now
    (subst (All (λ (e : Ended). e.fault ≡ None)) (c.as_slice.ensures.value ∙ c.in_ok-endings.ensures) c.in-None.ensures.none)
