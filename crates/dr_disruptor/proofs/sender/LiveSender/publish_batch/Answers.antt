use Rattle.std.proofs.Common.{◌∷◌, [], arith, length, refl, subst, ◌∙◌}
use Rattle.dr_meaning.specs.Calls.Filling.{FillsFrom}
use Rattle.dr_disruptor.specs.Sending.{ClaimedAtOnce, ClaimsJust, FillsOn, OnlyCalled, SendsAll}
use Rattle.dr_disruptor.proofs.Claims.{claimed_at_once}
use Rattle.dr_disruptor.proofs.Stretches.{counted_all, filled_none, is_whole, sends}
use Rattle.dr_disruptor.proofs.Called.{called_just, called_more, called_on, just_more, just_on}
use Rattle.dr_disruptor.proofs.sender.LiveSender.publish_batch.Goals as goal

pub fill_by-requires-clause-within : goal.fill_by-requires-clause-within
fill_by-requires-clause-within g c =
    filled_none (λ events. FillsOn (FillsFrom g.F.FnMut) c.args.fill.now 0 events c.args.fill.now) c.args.n c.in_ok-lo.field-0.lo
    (g.I.InPlaceInlet.sending c.self.inside.end) (g.I.InPlaceInlet.sending c.claim.new.end) c.in_ok-lo.ensures.opens refl

pub publish-requires : goal.publish-requires
publish-requires g c = record {
  whole = is_whole (λ events. FillsOn (FillsFrom g.F.FnMut) c.args.fill.now 0 events c.fill_by.new.fill) c.args.n c.in_ok-lo.field-0
      (g.I.InPlaceInlet.sending c.claim.new.end) (g.I.InPlaceInlet.sending c.fill_by.new.end) c.in_ok-lo.ensures.stretch c.fill_by.ensures.filled;
}

pub invariant_of-self-2 : goal.invariant_of-self-2
invariant_of-self-2 g c = (
  c.publish.ensures.publishes.closed,
  c.counted-self-inside.ensures
      ∙ counted_all (λ events. FillsOn (FillsFrom g.F.FnMut) c.args.fill.now 0 events c.fill_by.new.fill) c.args.n c.self.inside.sent
      (g.I.InPlaceInlet.sending c.self.inside.end).published (g.I.InPlaceInlet.sending c.publish.new.self).published
      (sends (λ events. FillsOn (FillsFrom g.F.FnMut) c.args.fill.now 0 events c.fill_by.new.fill) c.args.n c.in_ok-lo.field-0.lo
      (g.I.InPlaceInlet.sending c.self.inside.end) (g.I.InPlaceInlet.sending c.claim.new.end)
      (g.I.InPlaceInlet.sending c.fill_by.new.end) (g.I.InPlaceInlet.sending c.publish.new.self) c.in_ok-lo.ensures.opens c.fill_by.ensures.filled
      c.publish.ensures.publishes)
      c.self.invariant.1,
)

pub returns-clause-sent : goal.returns-clause-sent
returns-clause-sent g c =
    subst (λ (e : g.row.I.Denot). SendsAll (λ events. FillsOn (FillsFrom g.F.FnMut) c.args.fill.now 0 events c.fill_by.new.fill) c.args.n
    (g.I.InPlaceInlet.sending e).published (g.I.InPlaceInlet.sending c.publish.new.self).published)
    c.self.view_is
    (sends (λ events. FillsOn (FillsFrom g.F.FnMut) c.args.fill.now 0 events c.fill_by.new.fill) c.args.n c.in_ok-lo.field-0.lo
    (g.I.InPlaceInlet.sending c.self.inside.end) (g.I.InPlaceInlet.sending c.claim.new.end)
    (g.I.InPlaceInlet.sending c.fill_by.new.end) (g.I.InPlaceInlet.sending c.publish.new.self) c.in_ok-lo.ensures.opens c.fill_by.ensures.filled
    c.publish.ensures.publishes)

pub returns-clause-claims : goal.returns-clause-claims
returns-clause-claims g c =
    let kept = g.I.InPlaceInlet.kept in
    let sending = g.I.InPlaceInlet.sending in
    subst (λ (e : g.row.I.Denot). ClaimedAtOnce kept sending (length (sending e).published) c.args.n e c.publish.new.self) c.self.view_is
    (claimed_at_once kept sending c.args.n c.in_ok-lo.field-0.lo c.self.inside.end c.claim.new.end c.publish.new.self (λ events. FillsOn (FillsFrom g.F.FnMut) c.args.fill.now 0 events c.fill_by.new.fill) c.in_ok-lo.ensures.kept c.in_ok-lo.ensures.opens
    (sends (λ events. FillsOn (FillsFrom g.F.FnMut) c.args.fill.now 0 events c.fill_by.new.fill) c.args.n c.in_ok-lo.field-0.lo (sending c.self.inside.end) (sending c.claim.new.end) (sending c.fill_by.new.end) (sending c.publish.new.self)
    c.in_ok-lo.ensures.opens c.fill_by.ensures.filled c.publish.ensures.publishes))

pub returns-clause-some : goal.returns-clause-some
returns-clause-some g c = let (low, long, limit) = c.in_ok-lo.ensures.stretch in omega arith

pub returns-in_err-lo-clause-called : goal.returns-in_err-lo-clause-called
returns-in_err-lo-clause-called g c =
    let does = g.I.InPlaceInlet.does in
    subst (λ (e : g.row.I.Denot). OnlyCalled does e c.claim.new.end) c.self.view_is c.claim.ensures.called

pub returns-clause-called : goal.returns-clause-called
returns-clause-called g c =
    let does = g.I.InPlaceInlet.does in
    subst (λ (e : g.row.I.Denot). OnlyCalled does e c.publish.new.self) c.self.view_is
    (called_more does c.self.inside.end c.fill_by.new.end c.publish.new.self _
    (called_on does c.self.inside.end c.claim.new.end c.fill_by.new.end c.claim.ensures.called
    (called_just does c.claim.new.end c.fill_by.new.end [] c.fill_by.ensures.called)) c.publish.ensures.called)

pub returns-clause-accepted : goal.returns-clause-accepted
returns-clause-accepted g c =
    let does = g.I.InPlaceInlet.does in
    let claims = c.args.n ∷ [] in
    subst (λ (e : g.row.I.Denot). ClaimsJust does claims e c.publish.new.self) c.self.view_is
    (just_more does c.self.inside.end c.fill_by.new.end c.publish.new.self claims _
    (just_on does c.self.inside.end c.claim.new.end c.fill_by.new.end claims [] c.in_ok-lo.ensures.claims c.fill_by.ensures.called) c.publish.ensures.called)
