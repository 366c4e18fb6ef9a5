use Rattle.std.proofs.Common.{subst}
use Rattle.dr_plain.specs.Calls.Ends.{ReceiverEnd, receiver_place}
use Rattle.dr_disruptor.specs.Here.{HereEnd}
use Rattle.dr_plain.specs.Calls.InPlace.{SawSome, does_in_place}
use Rattle.dr_disruptor.specs.Serving.{AreServed}
use Rattle.dr_disruptor.proofs.Rounds.{served_after, shown_idle}
use Rattle.dr_disruptor.proofs.here.Here.drained.Goals as goal
use Rattle.dr_disruptor.proofs.Ready.{received_by}

pub serve_each-requires-clause-idle : goal.serve_each-requires-clause-idle
serve_each-requires-clause-idle g c =
    let here = c.self.inside in
    shown_idle receiver_place received_by SawSome does_in_place g.H.InPlaceHandler.goes here.way.batch here.ends.value.items
    here.starts.value.items here.receivers.items here.handlers.items c.self.invariant.1

pub returns-clause-served : goal.returns-clause-served
returns-clause-served g c =
    let here = c.self.inside in
    let goes = g.H.InPlaceHandler.goes in
    subst (λ (x : HereEnd g.row.E.Denot g.row.H.Denot). AreServed receiver_place received_by (λ (e : ReceiverEnd g.row.E.Denot). e.knows.told)
    SawSome does_in_place goes x.batch x.ends x.starts c.in_ok-served.served.items) c.self.view_is
    (served_after receiver_place received_by SawSome does_in_place goes here.way.batch
    (λ (e : ReceiverEnd g.row.E.Denot). e.knows.told) here.ends.value.items here.starts.value.items here.receivers.items here.handlers.items
    c.in_ok-served.served.items c.self.invariant.1 c.in_ok-served.ensures)
