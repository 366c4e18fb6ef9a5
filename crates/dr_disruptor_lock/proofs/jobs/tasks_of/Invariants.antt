use Rattle.std.proofs.Common.{◌≡◌, ◌+◌, ◌++◌, length, map}
use Rattle.dr_disruptor_lock.specs.Jobs.{AreTasks}
use Rattle.dr_disruptor_lock.proofs.jobs.tasks_of.Given as goal

-- each script has a task, or is yet to come
abbrev pub invariant-loop-script : goal.invariant-loop-script
invariant-loop-script g l =
    (map (λ t. t.script) l.tasks.items ++ l.script-iterator.rest.items ≡ l.fn.scripts.items)
    × (length l.tasks.items + length l.script-iterator.rest.items ≡ length l.fn.scripts.items)
    × (l.shared.begun ≡ l.fn.shared.begun)
    × (l.shared.given ≡ l.fn.shared.given + length l.tasks.items)
    × AreTasks l.tasks.items
