use Rattle.std.proofs.Common.{◌++◌, ◌∷◌, [], ◌∙◌, ap, sym, take}
use Rattle.std.proofs.lemmas.List.{take_all}
use Rattle.dr_replay.specs.Calls.Workers.{lock_endings}
use Rattle.dr_replay.proofs.Numbered.{lock_more}
use Rattle.dr_replay.proofs.lock.endings.Goals as goal

pub loop-p-preserved : goal.loop-p-preserved
loop-p-preserved c =
    let a = c.args in
    c.in_ok-push-4.ensures.items
    ∙ ap (λ l. l ++ c.ended-in-loop-p.result ∷ []) c.loop-p.invariant
    ∙ ap (λ e. lock_endings a.journal a.replica a.business (take c.loop-p.p a.producers.now) ++ e ∷ []) c.ended-in-loop-p.ensures
    ∙ sym (lock_more a.journal a.replica a.business a.producers.now c.loop-p.p _ c.loop-p-test.true)

pub returns : goal.returns
returns c = c.loop-p.invariant
    ∙ ap (λ l. lock_endings c.args.journal c.args.replica c.args.business l) (take_all c.loop-p.p c.args.producers.now c.loop-p-test.false)
