use Rattle.std.proofs.Common.{◌≡◌, ◌++◌, map}
use Rattle.dr_replay.proofs.lock.gathered.Given as goal

-- all ends so far, and how their workers ended
abbrev pub invariant-loop-producer : goal.invariant-loop-producer
invariant-loop-producer g l =
    (l.ends.items ++ map (λ s. s.end) l.producer-iterator.rest.items ≡ l.fn.handlers ++ map (λ s. s.end) l.fn.producers.items)
    × (l.faults.items ++ map (λ s. s.fault) l.producer-iterator.rest.items ≡ map (λ s. s.fault) l.fn.producers.items)
