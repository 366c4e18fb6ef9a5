use Rattle.std.proofs.Common.{◌≡◌, ◌+◌, ◌++◌, length, map}
use Rattle.dr_disruptor_lock.specs.Jobs.{AreJobs}
use Rattle.dr_disruptor_lock.proofs.jobs.jobs_of.Given as goal

-- each handler has a job, or is yet to come
abbrev pub invariant-loop-handler : goal.invariant-loop-handler
invariant-loop-handler g l =
    (map (λ j. j.watching.handler) l.jobs.items ++ l.handler-iterator.rest.items ≡ l.fn.handlers.items)
    × (l.shared.begun ≡ l.fn.shared.begun)
    × (l.shared.given ≡ l.fn.shared.given + length l.jobs.items)
    × AreJobs l.room l.jobs.items
