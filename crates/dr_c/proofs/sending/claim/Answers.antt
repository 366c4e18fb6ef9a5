use Rattle.std.proofs.Common.{refl, sym, subst}
use Rattle.dr_c.specs.declared.end.End.{End}
use Rattle.dr_c.specs.declared.end.End.TheVariants.{SenderOfBytes, SenderOfSeveral}
use Rattle.dr_c.specs.Calls.{ClaimsBy}
use Rattle.std.specs.Prelude.{Ok, Err}
use Rattle.dr_c.proofs.sending.claim.Goals as goal

pub returns-in-Ok-try_claim-2 : goal.returns-in-Ok-try_claim-2
returns-in-Ok-try_claim-2 c =
    let w' = c.try_claim-in-SenderOfBytes.new.self in let it = c.in-Ok-try_claim-2 in
    subst (λ (e : End). ClaimsBy c.args.n c.args.lo.now it.taken.lo 0 e (SenderOfBytes w')) (sym c.in-SenderOfBytes.is)
    (w', Ok it.taken, refl, refl, it.ensures.bytes, (it.ensures.call, refl))

pub returns-in-Err-try_claim-2 : goal.returns-in-Err-try_claim-2
returns-in-Err-try_claim-2 c =
    let w' = c.try_claim-in-SenderOfBytes.new.self in let it = c.in-Err-try_claim-2 in let number = c.number-in-Err-try_claim-2 in
    subst (λ (e : End). ClaimsBy c.args.n c.args.lo.now c.args.lo.now number.result e (SenderOfBytes w')) (sym c.in-SenderOfBytes.is)
    (w', Err it.cause, refl, number.ensures, it.ensures.bytes, (it.ensures.call, refl))

pub returns-in-Ok-try_claim : goal.returns-in-Ok-try_claim
returns-in-Ok-try_claim c =
    let s' = c.try_claim-in-SenderOfSeveral.new.self in let it = c.in-Ok-try_claim in
    subst (λ (e : End). ClaimsBy c.args.n c.args.lo.now it.stretch.lo 0 e (SenderOfSeveral s')) (sym c.in-SenderOfSeveral.is)
    (s', Ok it.stretch, refl, refl, (it.ensures, refl))

pub returns-in-Err-try_claim : goal.returns-in-Err-try_claim
returns-in-Err-try_claim c =
    let s' = c.try_claim-in-SenderOfSeveral.new.self in let it = c.in-Err-try_claim in let number = c.number-in-Err-try_claim in
    subst (λ (e : End). ClaimsBy c.args.n c.args.lo.now c.args.lo.now number.result e (SenderOfSeveral s')) (sym c.in-SenderOfSeveral.is)
    (s', Err it.fault, refl, number.ensures, (it.ensures, refl))
