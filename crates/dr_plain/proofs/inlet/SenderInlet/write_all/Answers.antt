use Rattle.std.proofs.Common.{◌≡◌, arith, inl, length, refl, sym, ◌∙◌}
use Rattle.dr_plain.proofs.ManyWrites.{wrote_each, wrote_more, wrote_none, wrote_refused}
use Rattle.dr_plain.proofs.inlet.SenderInlet.write_all.Goals as goal

pub loop-k-init : goal.loop-k-init
loop-k-init g c = wrote_none _ _ _

pub loop-k-preserved : goal.loop-k-preserved
loop-k-preserved g c =
    let event = c.index-events-k.result in
    wrote_more c.args.self.now c.loop-k.self c.write.new.self c.args.lo c.loop-k.k _ c.args.events.now event event c.loop-k-test.true refl (sym c.index-events-k.is) c.loop-k.invariant
    c.in-Ok.ensures

pub returns-in-Err-clause-kept : goal.returns-in-Err-clause-kept
returns-in-Err-clause-kept g c = c.in-Err.ensures.0.0 ∙ c.loop-k.invariant.call.0

pub returns-in-Err-clause-own : goal.returns-in-Err-clause-own
returns-in-Err-clause-own g c =
    wrote_refused c.args.self.now c.loop-k.self c.write.new.self c.args.lo c.loop-k.k c.args.events.now c.index-events-k.result c.in-Err.refusal c.loop-k-test.true c.loop-k.invariant c.in-Err.ensures

pub returns-in-Err-clause-answer : goal.returns-in-Err-clause-answer
returns-in-Err-clause-answer g c = (returns-in-Err-clause-own g c).answers

pub returns-in-Err-clause-sent : goal.returns-in-Err-clause-sent
returns-in-Err-clause-sent g c = (returns-in-Err-clause-own g c).sent

pub returns-in-Err-clause-called : goal.returns-in-Err-clause-called
returns-in-Err-clause-called g c = inl (returns-in-Err-clause-own g c)

pub returns-clause-own : goal.returns-clause-own
returns-clause-own g c =
    let all = c.loop-k-test.false in
    let end = c.loop-k.auto.k-end in
    let same : c.loop-k.k ≡ length c.args.events.now = omega arith in
    wrote_each _ _ c.args.lo c.loop-k.k (length c.args.events.now) c.args.events.now same refl c.loop-k.invariant

pub returns-clause-called : goal.returns-clause-called
returns-clause-called g c = inl (returns-clause-own g c)
