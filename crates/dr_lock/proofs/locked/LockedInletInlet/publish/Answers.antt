use Rattle.std.proofs.Common.{refl}
use Rattle.dr_lock.proofs.Replies.{publish_tells}
use Rattle.dr_lock.proofs.locked.LockedInletInlet.publish.Goals as goal

pub returns-in-Ok-Published-clause-answer : goal.returns-in-Ok-Published-clause-answer
returns-in-Ok-Published-clause-answer g c = publish_tells _ _ _ _ _ _ (rw c.in-Ok-Published.field-0-is at c.in-Ok-Published.ensures.answer)

pub returns-in-Ok-Published-clause-asked : goal.returns-in-Ok-Published-clause-asked
returns-in-Ok-Published-clause-asked g c = (refl, (rw c.in-Ok-Published.field-0-is at c.in-Ok-Published.ensures.answer, rw c.in-Ok-Published.field-0-is at c.in-Ok-Published.ensures.end))

pub returns-in-Ok-Refused-clause-answer : goal.returns-in-Ok-Refused-clause-answer
returns-in-Ok-Refused-clause-answer g c = publish_tells _ _ _ _ _ _ (rw c.in-Ok-Refused.field-0-is at c.in-Ok-Refused.ensures.answer)

pub returns-in-Ok-Refused-clause-asked : goal.returns-in-Ok-Refused-clause-asked
returns-in-Ok-Refused-clause-asked g c = (refl, (rw c.in-Ok-Refused.field-0-is at c.in-Ok-Refused.ensures.answer, rw c.in-Ok-Refused.field-0-is at c.in-Ok-Refused.ensures.end))

pub returns-in-Err-clause-asked : goal.returns-in-Err-clause-asked
returns-in-Err-clause-asked g c = (refl, (tt, c.in-Err.ensures.end))
