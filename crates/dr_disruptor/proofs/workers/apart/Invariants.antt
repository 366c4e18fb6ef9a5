use Rattle.std.proofs.Common.{◌≡◌, ◌++◌, map}
use Rattle.dr_disruptor.proofs.workers.apart.Given as goal

abbrev pub invariant-loop-one : goal.invariant-loop-one
invariant-loop-one g l =
    (l.outlets.items ++ map (λ s. s.outlet) l.one-iterator.rest.items ≡ map (λ s. s.outlet) l.fn.served.items)
    × (l.handlers.items ++ map (λ s. s.handler) l.one-iterator.rest.items ≡ map (λ s. s.handler) l.fn.served.items)
