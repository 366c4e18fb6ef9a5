use Rattle.std.proofs.Common.{refl, sym, subst}
use Rattle.dr_c.specs.declared.end.End.{End}
use Rattle.dr_c.specs.declared.end.End.TheVariants.{SenderOfBytes, SenderOfSeveral}
use Rattle.dr_c.specs.Calls.{PublishesSlotsBy}
use Rattle.dr_c.proofs.sending.publish_slots.Goals as goal

pub returns-in-SenderOfBytes : goal.returns-in-SenderOfBytes
returns-in-SenderOfBytes c =
    let call = c.publish_slots in
    subst (λ (e : End). PublishesSlotsBy c.args.lo c.args.hi c.number.result e (SenderOfBytes call.new.self)) (sym c.in-SenderOfBytes.is)
    (call.new.self, call.result, refl, c.number.ensures, call.ensures.bytes, (call.ensures.call, call.ensures.written))

pub returns-in-SenderOfSeveral : goal.returns-in-SenderOfSeveral
returns-in-SenderOfSeveral c =
    let call = c.publish_slots-in-SenderOfSeveral in
    subst (λ (e : End). PublishesSlotsBy c.args.lo c.args.hi c.number-in-SenderOfSeveral.result e (SenderOfSeveral call.new.self)) (sym c.in-SenderOfSeveral.is)
    (call.new.self, call.result, refl, c.number-in-SenderOfSeveral.ensures, call.ensures.call, call.ensures.written)
