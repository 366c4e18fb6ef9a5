use Rattle.std.proofs.Common.{◌≡◌, ◌+◌, ◌&&◌, length, arith, sym, ap, ◌∙◌, take}
use Rattle.std.specs.Prelude.{◌==◌}
use Rattle.std.proofs.lemmas.Bool.{and_left}
use Rattle.std.proofs.lemmas.List.{take_all}
use Rattle.dr_meaning.specs.Calls.Handling.{showings}
use Rattle.dr_meaning.proofs.Showings.{shows_more, length-showings}
use Rattle.dr_meaning.proofs.handler.show_in_place.Goals as goal
use Rattle.dr_meaning.proofs.handler.show_in_place.Goals.{then-end, else-end}

pub loop-k-preserved : goal.loop-k-preserved
loop-k-preserved g c =
    let mark : c.if-end.on_event_in_place ≡ (c.args.end && (c.loop-k.k + 1 == length c.args.events.now)) = elim c.if-end.branch [
      | then-end w ↦ w.on_event_in_place-is ∙ sym (ap (λ b. b && (c.loop-k.k + 1 == length c.args.events.now)) w.if-end.true)
      | else-end w ↦ w.on_event_in_place-is ∙ w.if-end.false ∙ sym (and_left _ _ w.if-end.false)
    ] in
    shows_more g.H.InPlaceHandler.goes c.args.handler.now c.loop-k.handler c.on_event_in_place.new.self c.args.events.now c.args.first c.loop-k.k c.args.end c.if-end.on_event_in_place c.index-events-k.result c.loop-k-test.true c.index-events-k.is mark c.loop-k.invariant c.on_event_in_place.ensures

pub returns : goal.returns
returns g c =
    let all : take c.loop-k.k (showings c.args.events.now c.args.first c.args.end) ≡ showings c.args.events.now c.args.first c.args.end = take_all c.loop-k.k (showings c.args.events.now c.args.first c.args.end) (rw length-showings (omega arith)) in
    rw all at c.loop-k.invariant
