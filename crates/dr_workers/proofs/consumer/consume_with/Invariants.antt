use Rattle.std.proofs.Common.{◌≡◌, length, true}
use Rattle.dr_meaning.specs.Calls.Calling.{SomeCalls}
use Rattle.dr_meaning.specs.Calls.Ends.{WhereShown}
use Rattle.dr_workers.specs.Calls.Stops.{MayStop}
use Rattle.dr_workers.specs.Calls.Waits.{Attends}
use Rattle.dr_workers.specs.Meaning.Work.{IsDone}
use Rattle.dr_workers.proofs.Biding.{end_with}
use Rattle.dr_workers.proofs.Serving.{Serving}
use Rattle.dr_workers.proofs.consumer.consume_with.Given as goal

abbrev pub invariant-loop : goal.invariant-loop
invariant-loop g l =
    (goal.iterator-loop g).can_next l.iterator' × (goal.iterator-loop g).is_finite l.iterator'
    × (g.O.Outlet.kept l.outlet ≡ g.O.Outlet.kept l.fn.outlet)
    × (l.passages.who ≡ l.fn.who) × (l.passages.stopped ≡ true → MayStop g.G.Gate.may_stop l.gate l.fn.who)
    × SomeCalls (Attends g.O.Outlet.does g.P.Patience.waits g.P.Patience.finds) (end_with l.fn.outlet l.fn.patience) (end_with l.outlet l.patience)
    (Serving (length l.fn.buf) g.H.InPlaceHandler.goes l.fn.handler l.handler (g.O.Outlet.received l.fn.outlet) (g.O.Outlet.received l.outlet)
    (g.G.Gate.may_stop l.gate) (g.G.Gate.must_stop l.gate) l.fn.who l.passages)
    × (length l.buf ≡ length l.fn.buf)
    × WhereShown IsDone (g.O.Outlet.received l.fn.outlet) (g.O.Outlet.received l.outlet)
