use Rattle.std.proofs.Common.{List, map, sym, subst, ap, ◌∙◌}
use lib.ListN.{get_elem?}
use Rattle.dr_plain.specs.Calls.Ends.{ReceiverEnd, receiver_place}
use Rattle.dr_plain.specs.Calls.InPlace.{SawSome, does_in_place}
use Rattle.dr_plain.specs.Calls.Settling.{AreAllEnds}
use Rattle.dr_lent.specs.Events.{events_of}
use Rattle.dr_plain.specs.Meaning.Settling.{Settles}
use Rattle.dr_disruptor.specs.Handlers.{AllWentThrough}
use Rattle.dr_disruptor.specs.Serving.{given_end, given_handler}
use Rattle.dr_disruptor.proofs.Through.{end_back, served_by}
use Rattle.dr_disruptor.proofs.Ready.{all_moved, are_settled, has_all, is_told, receivers_back, went_whole, received_by}
use Rattle.dr_disruptor.proofs.running.wind_up.Goals as goal

pub settle_all-settled-requires : goal.settle_all-settled-requires
settle_all-settled-requires g c =
    let goes = g.H.InPlaceHandler.goes in
    let sender = c.closed-sender.result in
    let workers = c.args.workers.items in
    let served = c.in_ok-served.served.items in
    let are = served_by receiver_place received_by is_told SawSome does_in_place goes c.args.batch workers served c.requires.batches c.in_ok-served.ensures in
    let moved = all_moved c.args.live sender (map given_end workers) c.args.halter c.closed-sender.ensures.1.0.0 c.requires.ends in
    subst (λ (l : List (ReceiverEnd g.row.E.Denot)). AreAllEnds sender l c.args.halter) (sym c.in_ok-outlets.ensures.outlets)
    (receivers_back goes c.args.batch sender c.args.halter (map given_end workers) (map given_handler workers) served are moved)

pub returns-clause-through : goal.returns-clause-through
returns-clause-through g c =
    let goes = g.H.InPlaceHandler.goes in
    let sender = c.closed-sender.result in
    let workers = c.args.workers.items in
    let served = c.in_ok-served.served.items in
    let are = served_by receiver_place received_by is_told SawSome does_in_place goes c.args.batch workers served c.requires.batches c.in_ok-served.ensures in
    let outlets = map (λ s. s.outlet) served in
    let settles : Settles sender.knows (map (λ (e : ReceiverEnd g.row.E.Denot). e.knows) outlets) =
    subst (λ (l : List (ReceiverEnd g.row.E.Denot)). Settles sender.knows (map (λ (e : ReceiverEnd g.row.E.Denot). e.knows) l)) c.in_ok-outlets.ensures.outlets
    c.settle_all-settled.ensures.lists in
    subst (λ (l : List g.row.H.Denot). AllWentThrough goes c.args.batch (events_of c.args.live.knows.published) (map given_handler workers) l)
    (sym c.in_ok-outlets.ensures.handlers)
    (went_whole goes c.args.batch c.args.live sender (map given_end workers) (map given_handler workers) served
    c.closed-sender.ensures.0 c.closed-sender.ensures.1 are settles c.requires.fresh)

pub returns-clause-served : goal.returns-clause-served
returns-clause-served g c =
    let served = c.in_ok-served.served.items in
    record {
      served = served;
      are = served_by receiver_place received_by is_told SawSome does_in_place g.H.InPlaceHandler.goes c.args.batch c.args.workers.items served c.requires.batches
          c.in_ok-served.ensures;
      ends_back = c.settle_all-settled.ensures.ends.1 ∙ c.in_ok-outlets.ensures.outlets;
      handlers_back = c.in_ok-outlets.ensures.handlers;
    }

pub returns-clause-settled : goal.returns-clause-settled
returns-clause-settled g c =
    let goes = g.H.InPlaceHandler.goes in
    let sender = c.closed-sender.result in
    let workers = c.args.workers.items in
    let served = c.in_ok-served.served.items in
    let are = served_by receiver_place received_by is_told SawSome does_in_place goes c.args.batch workers served c.requires.batches c.in_ok-served.ensures in
    let back = c.in_ok-outlets.field-0.outlets.items in
    let done = c.settle_all-settled.ensures in
    are_settled c.args.live sender back c.args.halter c.settle_all-settled.result.0 c.settle_all-settled.result.1 c.closed-sender.ensures done.ends done.run done.lists
    (λ h e at.
    let one = end_back receiver_place received_by is_told SawSome does_in_place goes c.args.batch (map given_end workers) (map given_handler workers) served are h e
    (ap (λ (l : List (ReceiverEnd g.row.E.Denot)). get_elem? l h) (sym c.in_ok-outlets.ensures.outlets) ∙ at) in
    has_all sender back done.lists h e at one.3 one.4)
    (c.requires.unhalted, done.unhalted c.requires.unhalted) (done.claimed, done.published, done.handlers, done.events)
