use Rattle.std.proofs.Common.{◌≡◌, ◌++◌, All, map}
use Rattle.dr_disruptor_lock.specs.Serving.{given_size, given_task}
use Rattle.dr_disruptor_lock.proofs.workers.fn.send_all.scope.Given as goal

-- each task is with a thread, or yet to come
abbrev pub invariant-loop-task : goal.invariant-loop-task
invariant-loop-task g l =
    (map given_task l.started.items ++ l.task-iterator.rest.items ≡ l.initial.task-iterator.rest.items)
    × All (λ w. given_size w ≡ l.around.size) l.started.items
