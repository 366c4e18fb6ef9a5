use Rattle.std.proofs.Common.{◌∙◌, ap, Err, Option, None, Some, IfNone, Ok, length, refl, sym}
use Rattle.std.proofs.lemmas.Bool.{false≢true}
use Rattle.dr_workers.proofs.Serving.{of_room, serves_in_trouble, serves_told, serving_more, serving_none}
use Rattle.dr_workers.proofs.Stopping.{stopped_more, waited, waited_in}
use Rattle.dr_workers.specs.declared.fault.WorkFault.{WorkFault}
use Rattle.dr_workers.specs.declared.passages.Passages.{Passages}
use Rattle.dr_workers.proofs.Working.{done_first, done_more}
use Rattle.dr_workers.specs.Calls.Waits.{Attends}
use Rattle.dr_workers.proofs.Biding.{end_alone, end_with}
use Rattle.dr_workers.proofs.consumer.consume_with.Goals as goal

whatever : {P : Type 0} (r : Option WorkFault) → P → IfNone r P
whatever (Some fault) is = tt
whatever None is = is

pub loop-init : goal.loop-init
loop-init g c = (
  tt,
  tt,
  refl,
  ap (λ (t : Passages). t.who) c.new-passages.ensures,
  λ is. absurd (false≢true (sym (ap (λ (t : Passages). t.stopped) c.new-passages.ensures) ∙ is)),
  serving_none (Attends g.O.Outlet.does g.P.Patience.waits g.P.Patience.finds) (length c.args.buf.now) g.H.InPlaceHandler.goes c.args.handler.now
      (end_with c.args.outlet.now c.args.patience.now) (g.O.Outlet.received c.args.outlet.now) (g.G.Gate.may_stop c.args.gate.now)
      (g.G.Gate.must_stop c.args.gate.now) c.args.who c.new-passages.result c.new-passages.ensures,
  refl,
  done_first _,
)

pub returns-in-Ok-Drained-clause-bides : goal.returns-in-Ok-Drained-clause-bides
returns-in-Ok-Drained-clause-bides g c =
    serves_told (Attends g.O.Outlet.does g.P.Patience.waits g.P.Patience.finds) (length c.args.buf.now) g.H.InPlaceHandler.goes c.args.handler.now
    c.loop.handler c.turn.new.handler (end_with c.args.outlet.now c.args.patience.now) (end_with c.loop.outlet c.loop.patience)
    (end_with c.turn.new.outlet c.turn.new.patience) _ _ _ (g.G.Gate.may_stop c.args.gate.now) (g.G.Gate.must_stop c.args.gate.now) c.args.who _ _ _ _
    c.loop.invariant.5 (of_room c.loop.invariant.6 c.turn.ensures.takes) (c.in-Ok-Drained.is ∙ ap (λ x. Ok x) c.in-Ok-Drained.field-0-is) c.at_end.ensures

pub returns-in-Ok-Drained-clause-serves : goal.returns-in-Ok-Drained-clause-serves
returns-in-Ok-Drained-clause-serves g c =
    end_alone g.O.Outlet.does g.P.Patience.waits g.P.Patience.finds (end_with c.args.outlet.now c.args.patience.now)
    (end_with c.turn.new.outlet c.turn.new.patience) _ (returns-in-Ok-Drained-clause-bides g c)

pub returns-in-Ok-Drained-clause-done : goal.returns-in-Ok-Drained-clause-done
returns-in-Ok-Drained-clause-done g c = whatever c.at_end.result (done_more _ _ _ c.loop.invariant.7 c.in-Ok-Drained.ensures.done)

pub loop-preserved : goal.loop-preserved
loop-preserved g c = (
  tt,
  tt,
  c.turn.ensures.kept ∙ c.loop.invariant.2,
  c.turn.ensures.takes.holds.passes.who ∙ c.loop.invariant.3,
  stopped_more (g.G.Gate.may_stop c.args.gate.now) (g.G.Gate.must_stop c.args.gate.now) _ c.args.who _ _ c.loop.invariant.3 c.loop.invariant.4
      c.turn.ensures.takes.holds.passes,
  serving_more (Attends g.O.Outlet.does g.P.Patience.waits g.P.Patience.finds) (length c.args.buf.now) g.H.InPlaceHandler.goes c.args.handler.now
      c.loop.handler c.turn.new.handler (end_with c.args.outlet.now c.args.patience.now) (end_with c.loop.outlet c.loop.patience)
      (end_with c.turn.new.outlet c.turn.new.patience) _ _ _ (g.G.Gate.may_stop c.args.gate.now) (g.G.Gate.must_stop c.args.gate.now) c.args.who _ _ _
      (c.in-Ok-GoesOn.is ∙ ap (λ x. Ok x) c.in-Ok-GoesOn.field-0-is) c.loop.invariant.5 (of_room c.loop.invariant.6 c.turn.ensures.takes),
  c.turn.auto.buf ∙ c.loop.invariant.6,
  done_more _ _ _ c.loop.invariant.7 c.in-Ok-GoesOn.ensures.done,
)

pub returns-in-Err-clause-bides : goal.returns-in-Err-clause-bides
returns-in-Err-clause-bides g c =
    serves_in_trouble (Attends g.O.Outlet.does g.P.Patience.waits g.P.Patience.finds) (length c.args.buf.now) g.H.InPlaceHandler.goes c.args.handler.now
    c.loop.handler c.turn.new.handler (end_with c.args.outlet.now c.args.patience.now) (end_with c.loop.outlet c.loop.patience)
    (end_with c.turn.new.outlet c.turn.new.patience) _ _ _ (g.G.Gate.may_stop c.args.gate.now) (g.G.Gate.must_stop c.args.gate.now) c.args.who _ _ _ _
    c.in-Err.trouble c.loop.invariant.5 (of_room c.loop.invariant.6 c.turn.ensures.takes) c.in-Err.is (ap Some c.in_trouble.ensures)

pub returns-in-Err-clause-serves : goal.returns-in-Err-clause-serves
returns-in-Err-clause-serves g c =
    end_alone g.O.Outlet.does g.P.Patience.waits g.P.Patience.finds (end_with c.args.outlet.now c.args.patience.now)
    (end_with c.turn.new.outlet c.turn.new.patience) _ (returns-in-Err-clause-bides g c)

pub returns-in-Ok-Drained-clause-waits : goal.returns-in-Ok-Drained-clause-waits
returns-in-Ok-Drained-clause-waits g c is = waited _ (sym c.at_end.ensures ∙ is)

pub returns-in-Err-clause-waits : goal.returns-in-Err-clause-waits
returns-in-Err-clause-waits g c is = waited_in _ _ (λ out. c.in-Err.ensures.waits (ap Err out)) (ap Some (sym c.in_trouble.ensures) ∙ is)
