use Rattle.std.proofs.Common.{refl, sym, subst}
use Rattle.dr_c.specs.declared.end.End.{End}
use Rattle.dr_c.specs.declared.end.End.TheVariants.{SenderOfBytes}
use Rattle.dr_c.specs.Calls.{WritesBytesBy}
use Rattle.dr_c.proofs.Placed.{whether_same}
use Rattle.dr_c.proofs.sending.write_bytes.Goals as goal

pub returns-else-bytes-writer : goal.returns-else-bytes-writer
returns-else-bytes-writer c =
    let call = c.write in
    subst (λ (e : End). WritesBytesBy c.args.sequence c.args.bytes.now c.number.result e (SenderOfBytes call.new.self)) (sym c.in-SenderOfBytes.is)
    (whether_same _ _ _ _ c.if-bytes-writer.false (call.new.self, call.result, refl, c.number.ensures, call.ensures.bytes, call.ensures.call))
