use Rattle.dr_disruptor.specs.Serving.{Shows}
use Rattle.dr_disruptor.proofs.served.turns.Given as goal

abbrev pub invariant-loop : goal.invariant-loop
invariant-loop g l =
    (goal.iterator-loop g).can_next l.iterator' × (goal.iterator-loop g).is_finite l.iterator'
    × Shows g.O.InPlaceOutlet.kept g.O.InPlaceOutlet.received g.O.InPlaceOutlet.saw g.O.InPlaceOutlet.does g.H.InPlaceHandler.goes l.batch l.fn.handler l.handler l.fn.outlet l.outlet
