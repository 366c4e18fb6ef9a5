use Rattle.std.proofs.Common.{rules, ◌<◌, ◌^◌, ap, arith, get_or, length, ◌∙◌}
use mathlib.Core.Option.{some}
use Rattle.dr_plain.specs.Calls.Ends.{ReceiverEnd, receiver_place}
use Rattle.dr_plain.specs.Calls.InPlace.{SawSome, does_in_place}
use Rattle.dr_runs.proofs.Elements.{at_index}
use Rattle.dr_disruptor.proofs.Rounds.{shown_idle, shown_none, shown_turn}
use Rattle.dr_disruptor.proofs.Turns.{turn_shows, turns_all, turns_more, turns_none}
use Rattle.dr_disruptor.proofs.here.round.Goals as goal
use Rattle.dr_disruptor.proofs.Ready.{received_by}

pub loop-h-init : goal.loop-h-init
loop-h-init g c =
    let goes = g.H.InPlaceHandler.goes in
    let rs = c.args.receivers.now in
    let hs = c.args.handlers.now in (
      turns_none goes c.args.batch rs hs c.requires.many,
      shown_none receiver_place received_by SawSome does_in_place goes c.args.batch rs hs c.requires.many c.requires.idle,
    )

pub loop-h-preserved : goal.loop-h-preserved
loop-h-preserved g c =
    let goes = g.H.InPlaceHandler.goes in
    let room = c.args.batch in
    let h = c.loop-h.h in
    let rs = c.loop-h.receivers in
    let hs = c.loop-h.handlers in
    let turns = c.loop-h.invariant.0 in
    let shown = c.loop-h.invariant.1 in
    let alike = shown.alike in
    let inside : h < length rs = search rules in
    let there : h < length hs = omega arith in
    let before = get_or rs h c.index-receivers-h.result in
    let after = c.turn.new.self in
    let handler = get_or hs h c.index-handlers-h.result in
    let gone = c.turn.new.handler in
    let at_receiver = at_index rs h c.index-receivers-h.result inside c.index-receivers-h.is ∙ ap (λ (e : ReceiverEnd g.row.E.Denot). some e) c.index-receivers-h.is in
    let at_handler = at_index hs h c.index-handlers-h.result there c.index-handlers-h.is ∙ ap (λ (a : g.row.H.Denot). some a) c.index-handlers-h.is in
    let idle = shown_idle receiver_place received_by SawSome does_in_place goes room c.args.receivers.now c.args.handlers.now rs hs
    shown h c.index-receivers-h.result inside in
    let fits : length after.knows.received < 2 ^ 64 = search rules in (
      turns_more goes room h c.args.receivers.now c.args.handlers.now rs hs before after handler gone c.in-Ok._answer turns at_receiver at_handler c.in-Ok.ensures,
      shown_turn receiver_place received_by SawSome does_in_place goes room c.args.receivers.now c.args.handlers.now rs hs h before after
          handler gone shown at_receiver at_handler
          (turn_shows goes room before after c.in-Ok._answer handler gone c.in-Ok.ensures idle c.requires.batch fits),
    )

pub returns-clause-turns : goal.returns-clause-turns
returns-clause-turns g c =
    turns_all g.H.InPlaceHandler.goes c.args.batch c.loop-h.h c.args.receivers.now c.args.handlers.now c.loop-h.receivers c.loop-h.handlers c.loop-h.invariant.0 (omega arith)
