use Rattle.std.proofs.Common.{refl}
use Rattle.std.proofs.lemmas.Result.{err_from_is_err_and}
use Rattle.dr_runs.proofs.Answering.{claim_of_end, claim_given}
use Rattle.dr_ring.proofs.inlet.SenderInletEvent.try_claim.Goals as goal

pub returns-in_err-try_claim-clause-answer : goal.returns-in_err-try_claim-clause-answer
returns-in_err-try_claim-clause-answer c =
    let p = err_from_is_err_and c.from_residual.result c.from_residual.ensures.1 in
    let claim = c.in_err-try_claim.ensures.1 in
    rw (p.1, p.2) (claim_of_end c.args.self.now.knows.sent _ _ _ _ claim.few claim.size refl c.in_err-try_claim.field-0.0 claim.answer, tt)

pub returns-clause-answer : goal.returns-clause-answer
returns-clause-answer c =
    let claim = c.in_ok-try_claim.ensures.1 in (claim_given c.args.self.now.knows.sent _ _ _ c.args.n claim.few claim.size refl claim.answer, claim.stretch)
