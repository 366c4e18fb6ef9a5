use Rattle.std.proofs.Common.{inl, refl, sym}
use Rattle.dr_plain_senders.proofs.Sequel.{wrote_more, wrote_all, stopped}
use Rattle.dr_plain_senders.proofs.inlet.SenderInlet.write_all.Goals as goal

pub loop-k-init : goal.loop-k-init
loop-k-init g c = record { place = refl; each = refl }

pub returns-in-Err-clause-own : goal.returns-in-Err-clause-own
returns-in-Err-clause-own g c =
    let event = c.index-events-k.result in
    stopped _ _ _ c.args.lo c.loop-k.k _ c.args.events.now event event c.in-Err.trouble
    c.loop-k-test.true refl (sym c.index-events-k.is) c.loop-k.invariant c.in-Err.ensures.own

pub loop-k-preserved : goal.loop-k-preserved
loop-k-preserved g c =
    let event = c.index-events-k.result in
    wrote_more _ _ _ c.args.lo c.loop-k.k _ c.args.events.now event event c.loop-k-test.true
    refl (sym c.index-events-k.is) c.loop-k.invariant c.write.ensures.kept c.in-Ok.ensures.own

pub returns-clause-own : goal.returns-clause-own
returns-clause-own g c = wrote_all _ _ c.args.lo c.loop-k.k c.args.events.now c.loop-k-test.false c.loop-k.invariant

pub returns-in-Err-clause-called : goal.returns-in-Err-clause-called
returns-in-Err-clause-called g c =
    let event = c.index-events-k.result in
    inl (stopped _ _ _ c.args.lo c.loop-k.k _ c.args.events.now event event c.in-Err.trouble
    c.loop-k-test.true refl (sym c.index-events-k.is) c.loop-k.invariant c.in-Err.ensures.own)

pub returns-clause-called : goal.returns-clause-called
returns-clause-called g c = inl (wrote_all _ _ c.args.lo c.loop-k.k c.args.events.now c.loop-k-test.false c.loop-k.invariant)
