use Rattle.std.proofs.Common.{refl}
use Rattle.dr_lock.proofs.Replies.{claim_tells}
use Rattle.dr_lock.proofs.locked.LockedInletInlet.try_claim.Goals as goal

pub returns-in-Ok-Claimed-clause-answer : goal.returns-in-Ok-Claimed-clause-answer
returns-in-Ok-Claimed-clause-answer g c = claim_tells _ _ _ _ _ (rw c.in-Ok-Claimed.field-0-is at c.in-Ok-Claimed.ensures.answer)

pub returns-in-Ok-Claimed-clause-asked : goal.returns-in-Ok-Claimed-clause-asked
returns-in-Ok-Claimed-clause-asked g c = (refl, (rw c.in-Ok-Claimed.field-0-is at c.in-Ok-Claimed.ensures.answer, rw c.in-Ok-Claimed.field-0-is at c.in-Ok-Claimed.ensures.end))

pub returns-in-Ok-Refused-clause-answer : goal.returns-in-Ok-Refused-clause-answer
returns-in-Ok-Refused-clause-answer g c = claim_tells _ _ _ _ _ (rw c.in-Ok-Refused.field-0-is at c.in-Ok-Refused.ensures.answer)

pub returns-in-Ok-Refused-clause-asked : goal.returns-in-Ok-Refused-clause-asked
returns-in-Ok-Refused-clause-asked g c = (refl, (rw c.in-Ok-Refused.field-0-is at c.in-Ok-Refused.ensures.answer, rw c.in-Ok-Refused.field-0-is at c.in-Ok-Refused.ensures.end))

pub returns-in-Err-clause-asked : goal.returns-in-Err-clause-asked
returns-in-Err-clause-asked g c = (refl, (tt, c.in-Err.ensures.end))
