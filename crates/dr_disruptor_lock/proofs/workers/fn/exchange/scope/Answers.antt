use Rattle.std.proofs.Common.{rules, ◌≡◌, ◌∙◌, ◌++◌, ◌∷◌, [], length, map, ap, arith}
use denote.Param.Send.{IsSync}
use Rattle.dr_lock.proofs.SharedCrossing.{of_param}
use Rattle.dr_disruptor_lock.specs.Serving.{given_job}
use Rattle.dr_disruptor_lock.proofs.Crossing.{crosses, gives}
use Rattle.dr_disruptor_lock.proofs.Kept.{comes_back}
use Rattle.dr_disruptor_lock.proofs.Listing.{all_moved, moved}
use Rattle.dr_disruptor_lock.proofs.workers.fn.exchange.scope.Goals as goal

-- a worker's closure may go to another thread: it has a reference to what all share, and its job
pub spawn_with-requires-send-F : goal.spawn_with-requires-send-F
spawn_with-requires-send-F g c κs within =
    let ledger : IsSync g.row.L = of_param _ g.row.L c.requires.shared in
    let workers : IsSync g.row.R = of_param _ g.row.R c.requires.workers in
    let handlers = c.requires.handlers in
    search crosses depth 60 fits 20000

-- what it gives back may be sent: its end, the handler, and what came of its work
pub spawn_with-requires-send-T : goal.spawn_with-requires-send-T
spawn_with-requires-send-T g c κs within =
    let handlers = c.requires.handlers in
    search gives depth 60 fits 20000

pub loop-job-preserved : goal.loop-job-preserved
loop-job-preserved g c =
    let worker = c.in-Ok.worker in
    let promise = c.in-Ok.ensures.ok in
    let job : given_job worker ≡ c.in-Some.job = ap (λ p. p.job.value) promise ∙ c.of-promise.ensures in
    let pushed : c.push.new.self.items ≡ c.loop-job.started.items ++ worker ∷ [] = search rules in
    moved given_job _ _ worker c.in-Some.job _ _ _ c.loop-job.invariant pushed job c.in-Some.ensures.steps.0

pub returns : goal.returns
returns g c =
    let workers = c.loop-job.started.items in
    let over = c.in-None.ensures.steps.0 in
    let rest = c.loop-job.job-iterator.rest in
    let left = rest.ok in
    let none : length rest.items ≡ 0 = omega arith in
    let given : map given_job workers ≡ c.captures.jobs.items =
    all_moved given_job workers rest.items c.captures.jobs.items (c.loop-job.invariant ∙ c.into_iter-job-iterator.ensures.into_iter_gives.0) none in
    comes_back g.L.Exchange.begun c.captures.around.now.size g.H.InPlaceHandler.goes c.captures.halter workers c.captures.jobs.items c.captures.tasks.items c.served.result given
    c.served.ensures.halted c.served.ensures.lacking c.served.ensures.sent c.served.ensures.served
