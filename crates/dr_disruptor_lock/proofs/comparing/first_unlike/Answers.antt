use Rattle.std.proofs.Common.{rules, ◌<◌, All, length, subst}
use Rattle.std.proofs.lemmas.List.{take_all}
use Rattle.std.proofs.lemmas.List.Elements.{All-more}
use Rattle.dr_disruptor_lock.specs.Watching.{HasListed}
use Rattle.dr_disruptor_lock.proofs.comparing.first_unlike.Goals as goal

pub loop-h-preserved : goal.loop-h-preserved
loop-h-preserved g c =
    let ws = c.args.watchings.now in
    let w = c.index-watchings-h.result in
    let below : c.loop-h.h < length ws = search rules in
    let has : HasListed c.args.events.now w = search rules in
    All-more (HasListed c.args.events.now) ws c.loop-h.h w below c.loop-h.invariant (subst (HasListed c.args.events.now) c.index-watchings-h.is has)

pub returns-clause-none : goal.returns-clause-none
returns-clause-none g c = subst (All (HasListed c.args.events.now)) (take_all c.loop-h.h c.args.watchings.now c.loop-h-test.false) c.loop-h.invariant
