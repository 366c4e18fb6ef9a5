use Rattle.std.proofs.Common.{rules, ◌≡◌, ◌∙◌, All, length, map, ap, subst, sym, arith}
use Rattle.std.proofs.lemmas.List.Elements.{All-push}
use denote.Param.Send.{IsSync}
use Rattle.dr_lock.proofs.SharedCrossing.{of_param}
use Rattle.dr_runs.proofs.Elements.{at_below, value_at}
use Rattle.dr_disruptor_lock.specs.Serving.{Producer, given_size, given_task}
use Rattle.dr_disruptor_lock.proofs.Crossing.{crosses, gives}
use Rattle.dr_disruptor_lock.proofs.Kept.{are_sent}
use Rattle.dr_disruptor_lock.proofs.Listing.{all_moved, moved}
use Rattle.dr_disruptor_lock.proofs.workers.fn.send_all.scope.Goals as goal

-- a worker's closure may go to another thread: it has a reference to what all share, and its task
pub spawn_with-requires-send-F : goal.spawn_with-requires-send-F
spawn_with-requires-send-F g c κs within =
    let ledger : IsSync g.row.L = of_param _ g.row.L c.requires.shared in
    let workers : IsSync g.row.R = of_param _ g.row.R c.requires.workers in
    search crosses depth 40 fits 20000

-- what it gives back may be sent: its end, what it sent, and what came of its work
pub spawn_with-requires-send-T : goal.spawn_with-requires-send-T
spawn_with-requires-send-T g c κs within = search gives depth 60 fits 20000

pub loop-task-preserved : goal.loop-task-preserved
loop-task-preserved g c =
    let was = c.loop-task.invariant in
    let pushed = c.in_ok-push.ensures.items in
    let promise = c.in_ok-spawn_with.ensures.ok in
    let worker = c.in_ok-spawn_with.field-0 in
    let task : given_task worker ≡ c.in-Some.task = ap (λ p. p.task.value) promise ∙ c.of-promise.ensures.task in
    let size : given_size worker ≡ c.captures.around.now.size = ap (λ p. p.size) promise ∙ c.of-promise.ensures.size in
    let IsSized : Producer g.row.L.Denot → Type 0 = λ w. given_size w ≡ c.captures.around.now.size in (
      moved given_task _ _ worker c.in-Some.task _ _ _ was.0 pushed task c.in-Some.ensures.steps.0,
      subst (All IsSized) (sym pushed) (All-push IsSized _ worker was.1 size),
    )

pub returns : goal.returns
returns g c =
    let was = c.loop-task.invariant in
    let workers = c.loop-task.started.items in
    let sent = c.in_ok-join_promised.field-0.items in
    let many : length sent ≡ length workers = search rules in
    let over = c.in-None.ensures.steps.0 in
    let rest = c.loop-task.task-iterator.rest in
    let left = rest.ok in
    let none : length rest.items ≡ 0 = omega arith in
    let given : map given_task workers ≡ c.captures.tasks.items =
    all_moved given_task workers rest.items c.captures.tasks.items (was.0 ∙ c.into_iter-task-iterator.ensures.into_iter_gives.0) none in
    are_sent g.L.Exchange.begun c.captures.around.now.size workers c.captures.tasks.items sent given
    (λ p w at. ap given_size (sym (value_at workers p w w at)) ∙ was.1 p w (at_below workers p w at)) many
    (λ p back below. let k = (c.in_ok-join_promised.ensures.each p back (omega arith)).1 in (k.handle, k.handle_is, k.kept))
