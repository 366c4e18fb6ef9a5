use Rattle.std.proofs.Common.{◌≡◌, ◌++◌, List, All, length}
use Rattle.std.specs.Vec.Iter.{into_iter_items}
use Rattle.dr_disruptor.specs.Serving.{AreServed, IsIdle}
use Rattle.dr_disruptor.proofs.here.serve_each.Given as goal

-- those that were served, and those that are yet to be
abbrev pub invariant-loop-outlet : goal.invariant-loop-outlet
invariant-loop-outlet g l =
    (given : List g.row.O.Denot) × (taken : List g.row.H.Denot) × (given ++ l.outlet-iterator.rest.items ≡ l.fn.outlets.items)
    × (taken ++ into_iter_items l.handlers ≡ l.fn.handlers.items)
    × (length l.outlet-iterator.rest.items ≡ length (into_iter_items l.handlers))
    × AreServed g.O.InPlaceOutlet.kept g.O.InPlaceOutlet.received g.O.InPlaceOutlet.told g.O.InPlaceOutlet.saw g.O.InPlaceOutlet.does g.H.InPlaceHandler.goes l.way.batch given taken l.served.items
    × All (λ o. IsIdle (g.O.InPlaceOutlet.received o)) l.outlet-iterator.rest.items
