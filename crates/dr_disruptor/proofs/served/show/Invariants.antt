use Rattle.std.proofs.Common.{take, drop}
use Rattle.dr_meaning.specs.Calls.Handling.{GoesThrough, showings}
use Rattle.dr_disruptor.proofs.served.show.Given as goal

abbrev pub invariant-loop-k : goal.invariant-loop-k
invariant-loop-k g l =
    GoesThrough g.H.InPlaceHandler.goes l.fn.handler (take l.k (showings (drop l.first (g.O.InPlaceOutlet.received l.outlet).events) l.first l.end)) l.handler
