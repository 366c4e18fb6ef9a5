use Rattle.std.proofs.Common.{◌≡◌, ◌-◌, min, arith, refl, ◌∙◌}
use Rattle.dr_meaning.specs.Calls.Filling.{FillsOne}
use Rattle.dr_disruptor.specs.Sending.{Fills}
use Rattle.dr_disruptor.proofs.Claims.{cuts_more, cuts_none}
use Rattle.dr_disruptor.proofs.Stretches.{sends_more, sends_none}
use Rattle.dr_disruptor.proofs.Called.{called_none, called_on}
use Rattle.dr_disruptor.proofs.sender.LiveSender.publish_each.Goals as goal

pub loop-done-preserved : goal.loop-done-preserved
loop-done-preserved g c =
    let part = c.in_ok-publish_part.ensures in
    let least = c.min-n.ensures in
    let within = c.loop-done.invariant.0 in
    let below = c.loop-done-test.true in
    let size : c.min-n.result ≡ min (c.args.count - c.loop-done.done) c.args.cut = omega arith in (
      omega arith,
      part.kept ∙ c.loop-done.invariant.1,
      sends_more (FillsOne g.F.Fn c.args.fill) 0 c.loop-done.done c.loop-done.done c.min-n.result (g.I.InPlaceInlet.sending c.args.self.now).published
          (g.I.InPlaceInlet.sending c.loop-done.self).published (g.I.InPlaceInlet.sending c.publish_part.new.self).published c.loop-done.invariant.2 (omega arith) part.sent,
      cuts_more g.I.InPlaceInlet.kept g.I.InPlaceInlet.sending g.I.InPlaceInlet.does c.args.cut c.args.count c.loop-done.done c.min-n.result c.args.self.now c.loop-done.self
          c.publish_part.new.self (Fills (FillsOne g.F.Fn c.args.fill) 0) (Fills (FillsOne g.F.Fn c.args.fill) c.loop-done.done) c.loop-done.invariant.1 size
          c.loop-done.invariant.2 part.sent c.loop-done.invariant.3 part.claims part.accepted,
      called_on g.I.InPlaceInlet.does c.args.self.now c.loop-done.self c.publish_part.new.self c.loop-done.invariant.4 c.publish_part.ensures.called,
    )

pub loop-done-init : goal.loop-done-init
loop-done-init g c = (
  omega arith,
  refl,
  sends_none (Fills (FillsOne g.F.Fn c.args.fill) 0) (g.I.InPlaceInlet.sending c.args.self.now).published tt,
  cuts_none g.I.InPlaceInlet.kept g.I.InPlaceInlet.sending g.I.InPlaceInlet.does c.args.cut c.args.count c.args.self.now,
  called_none g.I.InPlaceInlet.does c.args.self.now,
)

pub returns-in_err-publish_part-clause-called : goal.returns-in_err-publish_part-clause-called
returns-in_err-publish_part-clause-called g c =
    called_on g.I.InPlaceInlet.does c.args.self.now c.loop-done.self c.publish_part.new.self c.loop-done.invariant.4 c.publish_part.ensures.called

pub returns-clause-called : goal.returns-clause-called
returns-clause-called g c = c.loop-done.invariant.4
