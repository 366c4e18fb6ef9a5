use Rattle.std.proofs.Common.{◌≡◌, ◌+◌, ◌∙◌, ap, rules, subst, Err}
use Rattle.dr_meaning.specs.declared.ends.Trouble.TheVariants.{Memory}
use Rattle.dr_meaning.specs.Calls.Calling.{CompletesBelow}
use Rattle.dr_workers.proofs.Calling.{retried, retry_more}
use Rattle.dr_workers.proofs.Showing.{shown_same}
use Rattle.dr_workers.proofs.retries.complete.Goals as goal

pub loop-preserved : goal.loop-preserved
loop-preserved g c =
    let out = c.in-Err-Memory in
    let is : c.complete.result ≡ Err Memory = out.is ∙ ap (λ t. Err t) out.field-0-is in
    let call = subst (λ r. g.O.Outlet.does c.loop.outlet (CompletesBelow c.args.upto r) c.complete.new.self) is c.complete.ensures.called in (
      tt,
      tt,
      c.complete.ensures.kept ∙ c.loop.invariant.2,
      c.complete.ensures.told ∙ c.loop.invariant.3,
      shown_same _ _ out.ensures.received ∙ c.loop.invariant.4,
      (
        c.loop.invariant.5.0 + 1,
        retry_more g.O.Outlet.does c.args.outlet.now c.loop.outlet c.complete.new.self
            (CompletesBelow c.args.upto (Err Memory)) c.loop.invariant.5.0 c.loop.invariant.5.1 call,
      ),
    )

pub returns-in_default-clause-called : goal.returns-in_default-clause-called
returns-in_default-clause-called g c =
    retried g.O.Outlet.does c.args.outlet.now c.loop.outlet c.complete.new.self _ _ c.loop.invariant.5.0 c.loop.invariant.5.1
    (subst (λ r. g.O.Outlet.does c.loop.outlet (CompletesBelow c.args.upto r) c.complete.new.self) (search rules) c.complete.ensures.called)
