use Rattle.std.proofs.Common.{◌≡◌, arith, inl, length, refl}
use Rattle.dr_ring.proofs.Writings.{wrote_each, wrote_more, wrote_none, wrote_refused}
use Rattle.dr_ring.proofs.inlet.SenderInletEvent.write_all.Goals as goal

pub loop-k-init : goal.loop-k-init
loop-k-init c = wrote_none _ _ _

pub loop-k-preserved : goal.loop-k-preserved
loop-k-preserved c = wrote_more _ _ _ c.args.lo c.loop-k.k _ c.args.events.now _ _ c.loop-k-test.true refl refl c.loop-k.invariant c.in-Ok.ensures

pub returns-in-Err-clause-own : goal.returns-in-Err-clause-own
returns-in-Err-clause-own c =
    let call = c.in-Err.ensures in
    wrote_refused _ c.loop-k.self _ c.args.lo c.loop-k.k c.args.events.now c.in-Err.refusal c.loop-k-test.true c.loop-k.invariant
    call.0 call.1.0 call.1.1 call.1.2 call.2 call.3

pub returns-in-Err-clause-answer : goal.returns-in-Err-clause-answer
returns-in-Err-clause-answer c = (returns-in-Err-clause-own c).answers

pub returns-in-Err-clause-called : goal.returns-in-Err-clause-called
returns-in-Err-clause-called c = inl (returns-in-Err-clause-own c)

pub returns-clause-own : goal.returns-clause-own
returns-clause-own c =
    let all = c.loop-k-test.false in
    let end = c.loop-k.auto.k-end in
    let same : c.loop-k.k ≡ length c.args.events.now = omega arith in
    wrote_each _ _ c.args.lo c.loop-k.k (length c.args.events.now) c.args.events.now same refl c.loop-k.invariant

pub returns-clause-called : goal.returns-clause-called
returns-clause-called c = inl (returns-clause-own c)
