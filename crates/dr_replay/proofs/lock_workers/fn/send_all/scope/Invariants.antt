use Rattle.std.proofs.Common.{◌≡◌, ◌+◌, ◌<◌, ℕ, All, get_or, length}
use Rattle.dr_seq.specs.declared.event.Event.{Event}
use Rattle.dr_lock.specs.Calls.Lock.{EndView, no_calls}
use Rattle.dr_replay.proofs.Promising.{IsPromised}
use Rattle.dr_replay.proofs.lock_workers.fn.send_all.scope.Given as goal

-- each worker so far promised to send the script at its place
abbrev pub invariant-loop-end : goal.invariant-loop-end
invariant-loop-end g l =
    (length l.started.items + length l.end-iterator.rest.items ≡ length l.scripts)
    × All (λ (end : EndView Event). end ≡ no_calls) l.end-iterator.rest.items
    × ((k : ℕ) (d : _) → k < length l.started.items → IsPromised l.around.gate.now l.around.size l.scripts (get_or l.started.items k d).promise k)
