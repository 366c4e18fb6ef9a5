use Rattle.std.proofs.Common.{refl, sym, subst}
use Rattle.dr_c.specs.declared.end.End.{End}
use Rattle.dr_c.specs.declared.end.End.TheVariants.{SenderOfBytes, SenderOfSeveral}
use Rattle.dr_c.specs.Calls.{PublishesBy}
use Rattle.dr_c.proofs.sending.publish.Goals as goal

pub returns-in-SenderOfBytes : goal.returns-in-SenderOfBytes
returns-in-SenderOfBytes c =
    let call = c.publish-in-SenderOfBytes in
    subst (λ (e : End). PublishesBy c.args.lo c.args.hi c.number-in-SenderOfBytes.result e (SenderOfBytes call.new.self)) (sym c.in-SenderOfBytes.is)
    (call.new.self, call.result, refl, c.number-in-SenderOfBytes.ensures, call.ensures.bytes, call.ensures.call)

pub returns-in-SenderOfSeveral : goal.returns-in-SenderOfSeveral
returns-in-SenderOfSeveral c =
    let call = c.publish-in-SenderOfSeveral in
    subst (λ (e : End). PublishesBy c.args.lo c.args.hi c.number-in-SenderOfSeveral.result e (SenderOfSeveral call.new.self)) (sym c.in-SenderOfSeveral.is)
    (call.new.self, call.result, refl, c.number-in-SenderOfSeveral.ensures, call.ensures)
