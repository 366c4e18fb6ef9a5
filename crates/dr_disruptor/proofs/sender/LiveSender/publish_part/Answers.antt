use Rattle.std.proofs.Common.{◌∷◌, [], length, subst, ◌∙◌}
use Rattle.dr_meaning.specs.Calls.Filling.{FillsOne}
use Rattle.dr_disruptor.specs.Sending.{ClaimedAtOnce, ClaimsJust, Fills, OnlyCalled, SendsAll}
use Rattle.dr_disruptor.proofs.Claims.{claimed_at_once}
use Rattle.dr_disruptor.proofs.Stretches.{counted_all, filled_none, is_whole, sends}
use Rattle.dr_disruptor.proofs.Called.{called_just, called_more, called_on, just_more, just_on}
use Rattle.dr_disruptor.proofs.sender.LiveSender.publish_part.Goals as goal

pub fill_each-requires-clause-within : goal.fill_each-requires-clause-within
fill_each-requires-clause-within g c =
    filled_none (Fills (FillsOne g.F.Fn c.args.fill.now) c.args.first) c.args.part c.in_ok-lo.field-0.lo (g.I.InPlaceInlet.sending c.self.inside.end)
    (g.I.InPlaceInlet.sending c.claim.new.end) c.in_ok-lo.ensures.opens tt

pub publish-requires : goal.publish-requires
publish-requires g c = record {
  whole = is_whole (Fills (FillsOne g.F.Fn c.args.fill.now) c.args.first) c.args.part c.in_ok-lo.field-0 (g.I.InPlaceInlet.sending c.claim.new.end)
      (g.I.InPlaceInlet.sending c.fill_each.new.end) c.in_ok-lo.ensures.stretch c.fill_each.ensures.filled;
}

pub invariant_of-self-2 : goal.invariant_of-self-2
invariant_of-self-2 g c = (
  c.publish.ensures.publishes.closed,
  c.counted-self-inside.ensures
      ∙ counted_all (Fills (FillsOne g.F.Fn c.args.fill.now) c.args.first) c.args.part c.self.inside.sent (g.I.InPlaceInlet.sending c.self.inside.end).published
      (g.I.InPlaceInlet.sending c.publish.new.self).published
      (sends (Fills (FillsOne g.F.Fn c.args.fill.now) c.args.first) c.args.part c.in_ok-lo.field-0.lo (g.I.InPlaceInlet.sending c.self.inside.end) (g.I.InPlaceInlet.sending c.claim.new.end)
      (g.I.InPlaceInlet.sending c.fill_each.new.end) (g.I.InPlaceInlet.sending c.publish.new.self) c.in_ok-lo.ensures.opens c.fill_each.ensures.filled
      c.publish.ensures.publishes)
      c.self.invariant.1,
)

pub returns-clause-sent : goal.returns-clause-sent
returns-clause-sent g c =
    let fills = Fills (FillsOne g.F.Fn c.args.fill.now) c.args.first in
    subst (λ (e : g.row.I.Denot). SendsAll fills c.args.part (g.I.InPlaceInlet.sending e).published (g.I.InPlaceInlet.sending c.publish.new.self).published)
    c.self.view_is
    (sends fills c.args.part c.in_ok-lo.field-0.lo (g.I.InPlaceInlet.sending c.self.inside.end) (g.I.InPlaceInlet.sending c.claim.new.end)
    (g.I.InPlaceInlet.sending c.fill_each.new.end) (g.I.InPlaceInlet.sending c.publish.new.self) c.in_ok-lo.ensures.opens c.fill_each.ensures.filled
    c.publish.ensures.publishes)

pub returns-clause-claims : goal.returns-clause-claims
returns-clause-claims g c =
    let kept = g.I.InPlaceInlet.kept in
    let sending = g.I.InPlaceInlet.sending in
    let fills = Fills (FillsOne g.F.Fn c.args.fill.now) c.args.first in
    subst (λ (e : g.row.I.Denot). ClaimedAtOnce kept sending (length (sending e).published) c.args.part e c.publish.new.self) c.self.view_is
    (claimed_at_once kept sending c.args.part c.in_ok-lo.field-0.lo c.self.inside.end c.claim.new.end c.publish.new.self fills c.in_ok-lo.ensures.kept c.in_ok-lo.ensures.opens
    (sends fills c.args.part c.in_ok-lo.field-0.lo (sending c.self.inside.end) (sending c.claim.new.end) (sending c.fill_each.new.end) (sending c.publish.new.self)
    c.in_ok-lo.ensures.opens c.fill_each.ensures.filled c.publish.ensures.publishes))

pub returns-in_err-lo-clause-called : goal.returns-in_err-lo-clause-called
returns-in_err-lo-clause-called g c =
    let does = g.I.InPlaceInlet.does in
    subst (λ (e : g.row.I.Denot). OnlyCalled does e c.claim.new.end) c.self.view_is c.claim.ensures.called

pub returns-clause-called : goal.returns-clause-called
returns-clause-called g c =
    let does = g.I.InPlaceInlet.does in
    subst (λ (e : g.row.I.Denot). OnlyCalled does e c.publish.new.self) c.self.view_is
    (called_more does c.self.inside.end c.fill_each.new.end c.publish.new.self _
    (called_on does c.self.inside.end c.claim.new.end c.fill_each.new.end c.claim.ensures.called
    (called_just does c.claim.new.end c.fill_each.new.end [] c.fill_each.ensures.called)) c.publish.ensures.called)

pub returns-clause-accepted : goal.returns-clause-accepted
returns-clause-accepted g c =
    let does = g.I.InPlaceInlet.does in
    let claims = c.args.part ∷ [] in
    subst (λ (e : g.row.I.Denot). ClaimsJust does claims e c.publish.new.self) c.self.view_is
    (just_more does c.self.inside.end c.fill_each.new.end c.publish.new.self claims _
    (just_on does c.self.inside.end c.claim.new.end c.fill_each.new.end claims [] c.in_ok-lo.ensures.claims c.fill_each.ensures.called) c.publish.ensures.called)
