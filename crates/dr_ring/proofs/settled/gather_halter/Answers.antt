use Rattle.std.proofs.Common.{Option, ap, subst, sym}
use Rattle.dr_runs.specs.Gathering.{Gathers}
use Rattle.dr_ring.specs.Inside.Seats.{Sitting, ring_ends}
use Rattle.dr_ring.specs.Inside.Gathering.{halters_known}
use Rattle.dr_ring.specs.Calls.Ends.{HalterEnd}
use Rattle.dr_ring.proofs.Gathering.{halter_comes}
use Rattle.dr_ring.proofs.settled.gather_halter.Goals as goal

pub returns-in-Some-clause-view : goal.returns-in-Some-clause-view
returns-in-Some-clause-view c =
    subst (λ (t : Option HalterEnd). Gathers ring_ends c.args.seat.now.me.0 (halters_known t) c.unite.new.seat.me.0) (sym c.in-Some.is)
    (halter_comes _ c.halter.inside.seat.me _ _ c.in-Some.halter c.halter.invariant.end c.halter.view_is
    (ap (λ (m : Sitting). m.0) c.unite.ensures.view))
