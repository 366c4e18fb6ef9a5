use Rattle.std.proofs.Common.{subst, ◌∙◌}
use Rattle.std.specs.Fn.{FnOnceReturnsAtMut}
use Rattle.dr_disruptor.specs.Sending.{OnlyCalled, SendsOne}
use Rattle.dr_disruptor.proofs.Stretches.{counted_one, one_sent, one_whole}
use Rattle.dr_disruptor.proofs.Called.{called_more}
use Rattle.dr_disruptor.proofs.sender.LiveSender.publish_with.Goals as goal

pub publish-requires : goal.publish-requires
publish-requires g c =
    let claim = c.in_ok-lo in
    record {
      whole = one_whole (λ was now. FnOnceReturnsAtMut g.F.FnOnce c.args.fill was tt now) claim.field-0 (g.I.InPlaceInlet.sending c.self.inside.end)
          (g.I.InPlaceInlet.sending c.claim.new.end) (g.I.InPlaceInlet.sending c.update.new.self) claim.ensures.stretch claim.ensures.opens c.update.ensures.changes;
    }

pub invariant_of-self-2 : goal.invariant_of-self-2
invariant_of-self-2 g c =
    let claim = c.in_ok-lo in
    let sent = one_sent (λ was now. FnOnceReturnsAtMut g.F.FnOnce c.args.fill was tt now) claim.field-0 (g.I.InPlaceInlet.sending c.self.inside.end)
    (g.I.InPlaceInlet.sending c.claim.new.end) (g.I.InPlaceInlet.sending c.update.new.self) (g.I.InPlaceInlet.sending c.publish.new.self)
    claim.ensures.opens c.update.ensures.changes c.publish.ensures.publishes in (
      c.publish.ensures.publishes.closed,
      c.counted-self-inside.ensures
          ∙ counted_one (λ was now. FnOnceReturnsAtMut g.F.FnOnce c.args.fill was tt now) c.self.inside.sent (g.I.InPlaceInlet.sending c.self.inside.end).published
          (g.I.InPlaceInlet.sending c.publish.new.self).published sent c.self.invariant.1,
    )

pub returns-clause-sent : goal.returns-clause-sent
returns-clause-sent g c =
    let claim = c.in_ok-lo in
    subst (λ (e : g.row.I.Denot). SendsOne (λ was now. FnOnceReturnsAtMut g.F.FnOnce c.args.fill was tt now)
    (g.I.InPlaceInlet.sending e).published (g.I.InPlaceInlet.sending c.publish.new.self).published) c.self.view_is
    (one_sent (λ was now. FnOnceReturnsAtMut g.F.FnOnce c.args.fill was tt now) claim.field-0 (g.I.InPlaceInlet.sending c.self.inside.end)
    (g.I.InPlaceInlet.sending c.claim.new.end) (g.I.InPlaceInlet.sending c.update.new.self) (g.I.InPlaceInlet.sending c.publish.new.self)
    claim.ensures.opens c.update.ensures.changes c.publish.ensures.publishes)

pub returns-in_err-lo-clause-called : goal.returns-in_err-lo-clause-called
returns-in_err-lo-clause-called g c =
    let does = g.I.InPlaceInlet.does in
    subst (λ (e : g.row.I.Denot). OnlyCalled does e c.claim.new.end) c.self.view_is c.claim.ensures.called

pub returns-clause-called : goal.returns-clause-called
returns-clause-called g c =
    let does = g.I.InPlaceInlet.does in
    subst (λ (e : g.row.I.Denot). OnlyCalled does e c.publish.new.self) c.self.view_is
    (called_more does c.self.inside.end c.update.new.self c.publish.new.self _
    (called_more does c.self.inside.end c.claim.new.end c.update.new.self _ c.claim.ensures.called c.update.ensures.called) c.publish.ensures.called)
