use Rattle.std.proofs.Common.{rules, ◌≡◌, List, subst, sym}
use Rattle.dr_plain.specs.Calls.Ends.{ReceiverEnd, receiver_place}
use Rattle.dr_disruptor.specs.Here.{AreShown}
use Rattle.dr_plain.specs.Calls.InPlace.{SawSome, does_in_place}
use Rattle.dr_disruptor.proofs.Rounds.{shown_none}
use Rattle.dr_disruptor.proofs.here.Here.new.Goals as goal
use Rattle.dr_disruptor.proofs.Ready.{received_by}

pub invariant_of-result : goal.invariant_of-result
invariant_of-result g c =
    let goes = g.H.InPlaceHandler.goes in
    let rs = c.args.receivers.items in
    let hs = c.args.handlers.items in
    let ends : c.of-ends.result.value.items ≡ rs = search rules in
    let starts : c.of-starts.result.value.items ≡ hs = search rules in (
      c.requires.batch,
      subst (λ (l : List (ReceiverEnd g.row.E.Denot)). AreShown receiver_place received_by SawSome does_in_place goes c.args.way.batch l c.of-starts.result.value.items rs hs) (sym ends)
          (subst (λ (l : List g.row.H.Denot). AreShown receiver_place received_by SawSome does_in_place goes c.args.way.batch rs l rs hs) (sym starts)
          (shown_none receiver_place received_by SawSome does_in_place goes c.args.way.batch rs hs c.requires.many c.requires.idle)),
    )
