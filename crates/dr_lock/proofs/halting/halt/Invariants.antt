use Rattle.std.proofs.Common.{◌≡◌, ℕ, replicate}
use Rattle.dr_lock.specs.Calls.Lock.{after_calls, lacking_halt}
use Rattle.dr_lock.proofs.halting.halt.Given as goal

-- so far there was no memory
abbrev pub invariant-loop : goal.invariant-loop
invariant-loop g l = (goal.iterator-loop g).can_next l.iterator' × (goal.iterator-loop g).is_finite l.iterator' × (lacked : ℕ) × (l.end ≡ after_calls (replicate lacked lacking_halt) l.fn.end)
