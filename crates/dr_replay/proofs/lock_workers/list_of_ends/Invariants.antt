use Rattle.std.proofs.Common.{◌≡◌, ◌+◌, All, length}
use Rattle.dr_seq.specs.declared.event.Event.{Event}
use Rattle.dr_lock.specs.Calls.Lock.{EndView, no_calls}
use Rattle.dr_replay.proofs.lock_workers.list_of_ends.Given as goal

abbrev pub invariant-loop-p : goal.invariant-loop-p
invariant-loop-p g l = (length l.list.items ≡ l._p) × (l.shared.begun ≡ l.fn.shared.begun) × (l.shared.given ≡ l.fn.shared.given + l._p)
    × All (λ (end : EndView Event). end ≡ no_calls) l.list.items
