use Rattle.std.proofs.Common.{refl}
use Rattle.dr_lock.proofs.Replies.{write_tells}
use Rattle.dr_lock.proofs.locked.LockedInletInlet.write.Goals as goal

pub returns-in-Ok-Written-clause-answer : goal.returns-in-Ok-Written-clause-answer
returns-in-Ok-Written-clause-answer g c = write_tells _ _ _ _ _ _ (rw c.in-Ok-Written.field-0-is at c.in-Ok-Written.ensures.answer)

pub returns-in-Ok-Written-clause-asked : goal.returns-in-Ok-Written-clause-asked
returns-in-Ok-Written-clause-asked g c = (refl, (rw c.in-Ok-Written.field-0-is at c.in-Ok-Written.ensures.answer, rw c.in-Ok-Written.field-0-is at c.in-Ok-Written.ensures.end))

pub returns-in-Ok-Refused-clause-answer : goal.returns-in-Ok-Refused-clause-answer
returns-in-Ok-Refused-clause-answer g c = write_tells _ _ _ _ _ _ (rw c.in-Ok-Refused.field-0-is at c.in-Ok-Refused.ensures.answer)

pub returns-in-Ok-Refused-clause-asked : goal.returns-in-Ok-Refused-clause-asked
returns-in-Ok-Refused-clause-asked g c = (refl, (rw c.in-Ok-Refused.field-0-is at c.in-Ok-Refused.ensures.answer, rw c.in-Ok-Refused.field-0-is at c.in-Ok-Refused.ensures.end))

pub returns-in-Err-clause-asked : goal.returns-in-Err-clause-asked
returns-in-Err-clause-asked g c = (refl, (tt, c.in-Err.ensures.end))
