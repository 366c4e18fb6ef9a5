use Rattle.std.proofs.Common.{◌≡◌, ◌+◌, ◌∙◌, ap, subst, Err}
use Rattle.dr_meaning.specs.declared.ends.Trouble.TheVariants.{Memory}
use Rattle.dr_meaning.specs.Calls.Calling.{PublishesStretch}
use Rattle.dr_workers.proofs.Calling.{retried, retry_more}
use Rattle.dr_workers.proofs.Showing.{shown_same}
use Rattle.dr_workers.proofs.retries.publish.Goals as goal

pub loop-preserved : goal.loop-preserved
loop-preserved g c =
    let out = c.in-Err-Memory in
    let is : c.publish.result ≡ Err Memory = out.is ∙ ap (λ t. Err t) out.field-0-is in
    let call = subst (λ r. g.I.Inlet.does c.loop.inlet (PublishesStretch c.args.lo c.args.hi r) c.publish.new.self) is c.publish.ensures.called in (
      tt,
      tt,
      c.publish.ensures.kept ∙ c.loop.invariant.2,
      shown_same _ _ out.ensures.sent ∙ c.loop.invariant.3,
      (
        c.loop.invariant.4.0 + 1,
        retry_more g.I.Inlet.does c.args.inlet.now c.loop.inlet c.publish.new.self
            (PublishesStretch c.args.lo c.args.hi (Err Memory)) c.loop.invariant.4.0 c.loop.invariant.4.1 call,
      ),
    )

pub returns-in-Ok-clause-called : goal.returns-in-Ok-clause-called
returns-in-Ok-clause-called g c =
    retried g.I.Inlet.does c.args.inlet.now c.loop.inlet c.publish.new.self _ _ c.loop.invariant.4.0 c.loop.invariant.4.1
    (subst (λ r. g.I.Inlet.does c.loop.inlet (PublishesStretch c.args.lo c.args.hi r) c.publish.new.self) c.in-Ok.is c.publish.ensures.called)

pub returns-in-Err-Refused-clause-called : goal.returns-in-Err-Refused-clause-called
returns-in-Err-Refused-clause-called g c =
    let no = c.in-Err-Refused in
    let is = no.is ∙ ap (λ t. Err t) no.field-0-is in
    retried g.I.Inlet.does c.args.inlet.now c.loop.inlet c.publish.new.self _ _ c.loop.invariant.4.0 c.loop.invariant.4.1
    (subst (λ r. g.I.Inlet.does c.loop.inlet (PublishesStretch c.args.lo c.args.hi r) c.publish.new.self) is c.publish.ensures.called)
