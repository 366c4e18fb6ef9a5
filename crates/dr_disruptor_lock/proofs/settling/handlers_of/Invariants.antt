use Rattle.std.proofs.Common.{◌≡◌, ◌++◌, map}
use Rattle.dr_disruptor_lock.proofs.settling.handlers_of.Given as goal

abbrev pub invariant-loop-watching : goal.invariant-loop-watching
invariant-loop-watching g l = l.handlers.items ++ map (λ w. w.handler) l.watching-iterator.rest.items ≡ map (λ w. w.handler) l.fn.watchings.items
