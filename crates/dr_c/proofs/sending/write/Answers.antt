use Rattle.std.proofs.Common.{refl, sym, subst}
use Rattle.dr_c.specs.declared.end.End.{End}
use Rattle.dr_c.specs.declared.end.End.TheVariants.{SenderOfSeveral}
use Rattle.dr_c.specs.Calls.{WritesBy}
use Rattle.dr_c.proofs.sending.write.Goals as goal

pub returns-in-SenderOfSeveral : goal.returns-in-SenderOfSeveral
returns-in-SenderOfSeveral c =
    let call = c.write-in-SenderOfSeveral in
    subst (λ (e : End). WritesBy c.args.sequence c.args.event c.number-in-SenderOfSeveral.result e (SenderOfSeveral call.new.self)) (sym c.in-SenderOfSeveral.is)
    (call.new.self, call.result, refl, c.number-in-SenderOfSeveral.ensures, call.ensures)
