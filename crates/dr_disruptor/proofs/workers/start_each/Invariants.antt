use Rattle.std.proofs.Common.{◌≡◌, ◌++◌, All, length, map}
use Rattle.std.specs.Vec.Iter.{into_iter_items}
use Rattle.dr_disruptor.specs.Serving.{AreInBatches, IsIdle, given_end, given_handler}
use Rattle.dr_disruptor.proofs.workers.start_each.Given as goal

-- each end and each handler is with a thread, or yet to come
abbrev pub invariant-loop-outlet : goal.invariant-loop-outlet
invariant-loop-outlet g l =
    (map given_end l.started.items ++ l.outlet-iterator.rest.items ≡ l.fn.outlets.items)
    × (map given_handler l.started.items ++ into_iter_items l.handlers ≡ l.fn.handlers.items)
    × (length l.outlet-iterator.rest.items ≡ length (into_iter_items l.handlers))
    × AreInBatches l.way.batch l.started.items
    × All (λ o. IsIdle (g.O.InPlaceOutlet.received o)) l.outlet-iterator.rest.items
