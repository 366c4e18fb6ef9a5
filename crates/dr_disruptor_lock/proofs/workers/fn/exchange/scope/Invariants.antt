use Rattle.std.proofs.Common.{◌≡◌, ◌++◌, map}
use Rattle.dr_disruptor_lock.specs.Serving.{given_job}
use Rattle.dr_disruptor_lock.proofs.workers.fn.exchange.scope.Given as goal

-- each job is with a thread, or yet to come
abbrev pub invariant-loop-job : goal.invariant-loop-job
invariant-loop-job g l = map given_job l.started.items ++ l.job-iterator.rest.items ≡ l.initial.job-iterator.rest.items
