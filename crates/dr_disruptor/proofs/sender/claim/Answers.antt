use Rattle.std.proofs.Common.{rules, ◌∷◌, [], Err, ap, refl, subst, ◌∙◌}
use Rattle.dr_meaning.specs.Calls.Calling.{ClaimsStretch}
use Rattle.dr_disruptor.specs.Sending.{ClaimsJust, accepted}
use Rattle.dr_disruptor.proofs.Called.{called_just, called_more, just_more, just_none}
use Rattle.dr_disruptor.proofs.sender.claim.Goals as goal

pub loop-init : goal.loop-init
loop-init g c = (tt, tt, refl, refl, just_none g.I.InPlaceInlet.does c.args.end.now)

pub loop-preserved-in-Err-Contended : goal.loop-preserved-in-Err-Contended
loop-preserved-in-Err-Contended g c = let does = g.I.InPlaceInlet.does in (
  tt,
  tt,
  c.try_claim.ensures.kept ∙ c.loop.invariant.2,
  c.in-Err-Contended.ensures.refused ∙ c.loop.invariant.3,
  subst (λ r. ClaimsJust does (accepted (ClaimsStretch c.args.n r ∷ [])) c.args.end.now c.try_claim.new.self) c.in-Err-Contended.is
      (just_more does c.args.end.now c.loop.end c.try_claim.new.self [] _ c.loop.invariant.4 c.try_claim.ensures.called),
)

pub loop-preserved : goal.loop-preserved
loop-preserved g c = let does = g.I.InPlaceInlet.does in (
  tt,
  tt,
  c.try_claim.ensures.kept ∙ c.loop.invariant.2,
  c.in-Err-Refused-NoRoom.ensures.refused ∙ c.loop.invariant.3,
  subst (λ r. ClaimsJust does (accepted (ClaimsStretch c.args.n r ∷ [])) c.args.end.now c.try_claim.new.self) c.in-Err-Refused-NoRoom.is
      (just_more does c.args.end.now c.loop.end c.try_claim.new.self [] _ c.loop.invariant.4 c.try_claim.ensures.called),
)

pub returns-in-Ok-clause-called : goal.returns-in-Ok-clause-called
returns-in-Ok-clause-called g c =
    let does = g.I.InPlaceInlet.does in
    called_more does c.args.end.now c.loop.end c.try_claim.new.self _ (called_just does c.args.end.now c.loop.end [] c.loop.invariant.4) c.try_claim.ensures.called

pub returns-in-Ok-clause-claims : goal.returns-in-Ok-clause-claims
returns-in-Ok-clause-claims g c =
    let does = g.I.InPlaceInlet.does in
    subst (λ r. ClaimsJust does (accepted (ClaimsStretch c.args.n r ∷ [])) c.args.end.now c.try_claim.new.self) c.in-Ok.is
    (just_more does c.args.end.now c.loop.end c.try_claim.new.self [] _ c.loop.invariant.4 c.try_claim.ensures.called)

pub returns-in-Err-Refused-clause-called : goal.returns-in-Err-Refused-clause-called
returns-in-Err-Refused-clause-called g c =
    let does = g.I.InPlaceInlet.does in
    called_more does c.args.end.now c.loop.end c.try_claim.new.self _ (called_just does c.args.end.now c.loop.end [] c.loop.invariant.4) c.try_claim.ensures.called

pub returns-in-Err-Refused-clause-refused : goal.returns-in-Err-Refused-clause-refused
returns-in-Err-Refused-clause-refused g c =
    let no = c.in-Err-Refused in
    let is = no.is ∙ ap (λ fault. Err fault) no.field-0-is in
    record {
      tried = c.loop.end;
      calls = called_just g.I.InPlaceInlet.does c.args.end.now c.loop.end [] c.loop.invariant.4;
      place = c.loop.invariant.2;
      before = c.loop.invariant.3;
      refused = subst (λ r. g.I.InPlaceInlet.does c.loop.end (ClaimsStretch c.args.n r) c.try_claim.new.self) is c.try_claim.ensures.called;
      waits = search rules;
      same = no.ensures.refused ∙ c.loop.invariant.3;
    }
