use Rattle.std.proofs.Common.{refl, sym, subst}
use Rattle.dr_c.specs.declared.end.End.{End}
use Rattle.dr_c.specs.declared.end.End.TheVariants.{SenderOfBytes}
use Rattle.dr_c.specs.Calls.{ClosesBy}
use Rattle.dr_c.proofs.sending.close.Goals as goal

pub returns-in-SenderOfBytes : goal.returns-in-SenderOfBytes
returns-in-SenderOfBytes c =
    let call = c.close-in-SenderOfBytes in
    subst (λ (e : End). ClosesBy c.number-in-SenderOfBytes.result e (SenderOfBytes call.new.self)) (sym c.in-SenderOfBytes.is)
    (call.new.self, call.result, refl, c.number-in-SenderOfBytes.ensures, call.ensures.bytes, call.ensures.call)
