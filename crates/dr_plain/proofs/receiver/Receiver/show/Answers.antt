use Rattle.std.proofs.Common.{◌≡◌, ◌+◌, ◌-◌, ◌≤◌, ◌&&◌, length, take, drop, arith, sym, ap, ◌∙◌}
use Rattle.std.specs.Prelude.{◌==◌}
use Rattle.std.proofs.lemmas.Bool.{and_left}
use Rattle.std.proofs.lemmas.List.{get_or-drop, length-drop, length-map, take_all}
use Rattle.dr_meaning.specs.Calls.Handling.{showings}
use Rattle.dr_meaning.proofs.Showings.{shows_more, length-showings}
use Rattle.dr_runs.proofs.Elements.{value_at}
use Rattle.dr_lent.specs.declared.lent.Lent.{Lent}
use Rattle.dr_lent.specs.Events.{events_of}
use Rattle.dr_plain.proofs.receiver.Receiver.show.Goals as goal
use Rattle.dr_plain.proofs.receiver.Receiver.show.Goals.{then-end, else-end}

pub loop-k-preserved : goal.loop-k-preserved
loop-k-preserved g c =
    let received = c.args.self.now.knows.received in let events = events_of received in
    let first = c.args.first in let k = c.loop-k.k in let event = c.in_hand-event.result.now in
    let high = c.requires.high in let below = c.loop-k-test.true in
    let all : length events ≡ length received = length-map received (λ (l : Lent g.row.T.Denot). l.event) in
    let left : length events - first ≡ c.args.count = omega arith in
    let many : length (drop first events) ≡ c.args.count = length-drop first events ∙ left in
    let is = sym (get_or-drop first events k event ∙ value_at events (first + k) event event c.in_hand-event.ensures) in
    let mark : c.if-end.on_event_in_place ≡ (c.args.end && (k + 1 == length (drop first events))) = elim c.if-end.branch [
      | then-end w ↦ w.on_event_in_place-is ∙ ap (λ n. k + 1 == n) (sym many) ∙ sym (ap (λ b. b && (k + 1 == length (drop first events))) w.if-end.true)
      | else-end w ↦ w.on_event_in_place-is ∙ w.if-end.false ∙ sym (and_left _ _ w.if-end.false)
    ] in
    shows_more g.H.InPlaceHandler.goes c.args.handler.now c.loop-k.handler c.on_event_in_place.new.self (drop first events) first k c.args.end
    c.if-end.on_event_in_place event (omega arith) is mark c.loop-k.invariant c.on_event_in_place.ensures

pub returns : goal.returns
returns g c =
    let received = c.args.self.now.knows.received in let events = events_of received in
    let first = c.args.first in let k = c.loop-k.k in let high = c.requires.high in let past = c.loop-k-test.false in
    let all : length events ≡ length received = length-map received (λ (l : Lent g.row.T.Denot). l.event) in
    let left : length events - first ≡ c.args.count = omega arith in
    let many : length (drop first events) ≡ c.args.count = length-drop first events ∙ left in
    let long : length (showings (drop first events) first c.args.end) ≤ k = rw length-showings (omega arith) in
    let whole : take k (showings (drop first events) first c.args.end) ≡ showings (drop first events) first c.args.end =
    take_all k (showings (drop first events) first c.args.end) long in
    rw whole at c.loop-k.invariant
