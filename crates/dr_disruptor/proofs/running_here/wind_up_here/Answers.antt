use Rattle.std.proofs.Common.{List, map, sym, subst, ap, ◌∙◌}
use lib.ListN.{get_elem?}
use Rattle.dr_plain.specs.Calls.Ends.{ReceiverEnd, receiver_place}
use Rattle.dr_plain.specs.Calls.InPlace.{SawSome, does_in_place}
use Rattle.dr_plain.specs.Calls.Settling.{AreAllEnds}
use Rattle.dr_lent.specs.Events.{events_of}
use Rattle.dr_plain.specs.Meaning.Settling.{Settles}
use Rattle.dr_disruptor.specs.Handlers.{AllWentThrough}
use Rattle.dr_disruptor.specs.Here.{HereEnd}
use Rattle.dr_disruptor.specs.Running.{AreSettled}
use Rattle.dr_disruptor.specs.Serving.{AreServed}
use Rattle.dr_disruptor.proofs.Through.{end_back}
use Rattle.dr_disruptor.proofs.Ready.{all_moved, are_settled, has_all, is_told, receivers_back, went_whole, received_by}
use Rattle.dr_disruptor.proofs.running_here.wind_up_here.Goals as goal

pub settle_all-settled-requires : goal.settle_all-settled-requires
settle_all-settled-requires g c =
    let here = c.into_end-here.result.0 in
    let done = c.in_ok-sender.ensures in
    let ends = subst (λ (x : HereEnd g.row.E.Denot g.row.H.Denot). AreAllEnds x.sender x.ends c.args.halter) (sym c.into_end-here.ensures.is) c.requires.ends in
    let moved = all_moved here.sender c.in_ok-sender.sender here.ends c.args.halter done.closes.1.0.0 ends in
    subst (λ (l : List (ReceiverEnd g.row.E.Denot)). AreAllEnds c.in_ok-sender.sender l c.args.halter) (sym c.in_ok-outlets.ensures.outlets)
    (receivers_back g.H.InPlaceHandler.goes here.batch c.in_ok-sender.sender c.args.halter here.ends here.starts c.in_ok-sender.served.items done.served moved)

pub returns-clause-through : goal.returns-clause-through
returns-clause-through g c =
    let goes = g.H.InPlaceHandler.goes in
    let here = c.into_end-here.result.0 in
    let back = sym c.into_end-here.ensures.is in
    let done = c.in_ok-sender.ensures in
    let sender = c.in_ok-sender.sender in
    let served = c.in_ok-sender.served.items in
    let outlets = map (λ s. s.outlet) served in
    let settles : Settles sender.knows (map (λ (e : ReceiverEnd g.row.E.Denot). e.knows) outlets) =
    subst (λ (l : List (ReceiverEnd g.row.E.Denot)). Settles sender.knows (map (λ (e : ReceiverEnd g.row.E.Denot). e.knows) l)) c.in_ok-outlets.ensures.outlets
    c.settle_all-settled.ensures.lists in
    let went = went_whole goes here.batch here.sender sender here.ends here.starts served done.closes.0 done.closes.1 done.served settles
    (λ h e at. c.requires.fresh h e (ap (λ (x : HereEnd g.row.E.Denot g.row.H.Denot). get_elem? x.ends h) back ∙ at)) in
    subst (λ (l : List g.row.H.Denot). AllWentThrough goes c.args.live.batch (events_of c.args.live.sender.knows.published) c.args.live.starts l)
    (sym c.in_ok-outlets.ensures.handlers)
    (subst (λ (x : HereEnd g.row.E.Denot g.row.H.Denot). AllWentThrough goes x.batch (events_of x.sender.knows.published) x.starts (map (λ s. s.handler) served))
    c.into_end-here.ensures.is went)

pub returns-clause-served : goal.returns-clause-served
returns-clause-served g c =
    let goes = g.H.InPlaceHandler.goes in
    let served = c.in_ok-sender.served.items in
    let here = c.into_end-here.result.0 in
    let done : AreServed receiver_place received_by is_told SawSome does_in_place goes here.batch here.ends here.starts served = c.in_ok-sender.ensures.served in
    record {
      served = served;
      are = subst (λ (x : HereEnd g.row.E.Denot g.row.H.Denot). AreServed receiver_place received_by is_told SawSome does_in_place goes x.batch x.ends x.starts served)
          c.into_end-here.ensures.is done;
      ends_back = c.settle_all-settled.ensures.ends.1 ∙ c.in_ok-outlets.ensures.outlets;
      handlers_back = c.in_ok-outlets.ensures.handlers;
    }

pub returns-clause-settled : goal.returns-clause-settled
returns-clause-settled g c =
    let goes = g.H.InPlaceHandler.goes in
    let here = c.into_end-here.result.0 in
    let closes = c.in_ok-sender.ensures.closes in
    let sender = c.in_ok-sender.sender in
    let back = c.in_ok-outlets.field-0.outlets.items in
    let done = c.settle_all-settled.ensures in
    subst (λ (x : HereEnd g.row.E.Denot g.row.H.Denot). AreSettled x.sender c.settle_all-settled.result.0 c.settle_all-settled.result.1) c.into_end-here.ensures.is
    (are_settled here.sender sender back c.args.halter c.settle_all-settled.result.0 c.settle_all-settled.result.1 closes done.ends done.run done.lists
    (λ h e at.
    let one = end_back receiver_place received_by is_told SawSome does_in_place goes here.batch here.ends here.starts c.in_ok-sender.served.items
    c.in_ok-sender.ensures.served h e (ap (λ (l : List (ReceiverEnd g.row.E.Denot)). get_elem? l h) (sym c.in_ok-outlets.ensures.outlets) ∙ at) in
    has_all sender back done.lists h e at one.3 one.4)
    (c.requires.unhalted, done.unhalted c.requires.unhalted) (done.claimed, done.published, done.handlers, done.events))
