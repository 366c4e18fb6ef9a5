use Rattle.std.proofs.Common.{rules, ◌≡◌, ◌++◌, List, All, length, take, drop, sym, subst, ◌∙◌}
use Rattle.dr_plain.specs.Calls.Ends.{ReceiverEnd, receiver_place}
use Rattle.dr_disruptor.specs.Here.{AreShown}
use Rattle.dr_plain.specs.Calls.InPlace.{SawSome, does_in_place}
use Rattle.dr_disruptor.specs.Serving.{IsIdle}
use Rattle.dr_disruptor.proofs.Rounds.{shown_idle, shown_on, written_back}
use Rattle.dr_disruptor.proofs.here.HereInPlaceInlet.try_claim.Goals as goal
use Rattle.dr_disruptor.proofs.Ready.{received_by}

pub round-requires-clause-idle : goal.round-requires-clause-idle
round-requires-clause-idle g c =
    let here = c.self.inside in
    let is : c.as_mut_slice.result.now ≡ here.receivers.items = search rules in
    subst (λ (l : List (ReceiverEnd g.row.E.Denot)). All (λ (e : ReceiverEnd g.row.E.Denot). IsIdle (received_by e)) l) (sym is)
    (shown_idle receiver_place received_by SawSome does_in_place g.H.InPlaceHandler.goes here.way.batch here.ends.value.items
    here.starts.value.items here.receivers.items here.handlers.items c.self.invariant.1)

pub invariant_of-self-in-Err-NoRoom : goal.invariant_of-self-in-Err-NoRoom
invariant_of-self-in-Err-NoRoom g c =
    let here = c.self.inside in
    let goes = g.H.InPlaceHandler.goes in
    let os = c.round.new.receivers in
    let hs = c.round.new.handlers in
    let outlets : c.as_mut_slice.result.now ≡ here.receivers.items = search rules in
    let handlers : c.as_mut_slice-in-Err-NoRoom.result.now ≡ here.handlers.items = search rules in
    let many : here.receivers.len ≡ length here.receivers.items = search rules in
    let more : here.handlers.len ≡ length here.handlers.items = search rules in
    let round = subst (λ (l : List (ReceiverEnd g.row.E.Denot)). AreShown receiver_place received_by SawSome does_in_place goes here.way.batch
    l here.handlers.items os hs) outlets
    (subst (λ (l : List g.row.H.Denot). AreShown receiver_place received_by SawSome does_in_place goes here.way.batch
    c.as_mut_slice.result.now l os hs) handlers c.round.ensures.shown) in
    let on = shown_on receiver_place received_by SawSome does_in_place goes here.way.batch here.ends.value.items here.starts.value.items
    here.receivers.items here.handlers.items os hs c.self.invariant.1 round in
    let long : length hs ≡ length here.handlers.items = round.alike ∙ round.many ∙ sym c.self.invariant.1.alike in (
      c.self.invariant.0,
      subst (λ (l : List (ReceiverEnd g.row.E.Denot)). AreShown receiver_place received_by SawSome does_in_place goes here.way.batch
          here.ends.value.items here.starts.value.items l (take here.handlers.len (hs ++ drop (length hs) here.handlers.items))) (sym (written_back os here.receivers.items here.receivers.len round.many many))
          (subst (λ (l : List g.row.H.Denot). AreShown receiver_place received_by SawSome does_in_place goes here.way.batch
          here.ends.value.items here.starts.value.items os l) (sym (written_back hs here.handlers.items here.handlers.len long more)) on),
    )
