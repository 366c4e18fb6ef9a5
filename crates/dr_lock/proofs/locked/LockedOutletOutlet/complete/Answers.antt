use Rattle.std.proofs.Common.{refl}
use Rattle.dr_lock.proofs.Replies.{complete_tells}
use Rattle.dr_lock.proofs.locked.LockedOutletOutlet.complete.Goals as goal

pub returns-in-Ok-Completed-clause-answer : goal.returns-in-Ok-Completed-clause-answer
returns-in-Ok-Completed-clause-answer g c = complete_tells _ _ _ _ _ (rw c.in-Ok-Completed.field-0-is at c.in-Ok-Completed.ensures.answer)

pub returns-in-Ok-Completed-clause-asked : goal.returns-in-Ok-Completed-clause-asked
returns-in-Ok-Completed-clause-asked g c = (refl, (rw c.in-Ok-Completed.field-0-is at c.in-Ok-Completed.ensures.answer, rw c.in-Ok-Completed.field-0-is at c.in-Ok-Completed.ensures.end))

pub returns-in-Ok-Refused-clause-answer : goal.returns-in-Ok-Refused-clause-answer
returns-in-Ok-Refused-clause-answer g c = complete_tells _ _ _ _ _ (rw c.in-Ok-Refused.field-0-is at c.in-Ok-Refused.ensures.answer)

pub returns-in-Ok-Refused-clause-asked : goal.returns-in-Ok-Refused-clause-asked
returns-in-Ok-Refused-clause-asked g c = (refl, (rw c.in-Ok-Refused.field-0-is at c.in-Ok-Refused.ensures.answer, rw c.in-Ok-Refused.field-0-is at c.in-Ok-Refused.ensures.end))

pub returns-in-Err-clause-asked : goal.returns-in-Err-clause-asked
returns-in-Err-clause-asked g c = (refl, (tt, c.in-Err.ensures.end))
