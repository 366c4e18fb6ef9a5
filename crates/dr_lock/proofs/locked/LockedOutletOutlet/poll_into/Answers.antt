use Rattle.std.proofs.Common.{refl}
use Rattle.dr_lock.proofs.locked.LockedOutletOutlet.poll_into.Goals as goal

pub returns-in-Ok-Batch-clause-asked : goal.returns-in-Ok-Batch-clause-asked
returns-in-Ok-Batch-clause-asked g c = (refl, (rw c.in-Ok-Batch.field-0-is at c.in-Ok-Batch.ensures.answer, rw c.in-Ok-Batch.field-0-is at c.in-Ok-Batch.ensures.end))

pub returns-in-Ok-Drained-clause-asked : goal.returns-in-Ok-Drained-clause-asked
returns-in-Ok-Drained-clause-asked g c = (refl, (rw c.in-Ok-Drained.field-0-is at c.in-Ok-Drained.ensures.answer, rw c.in-Ok-Drained.field-0-is at c.in-Ok-Drained.ensures.end))

pub returns-in-Ok-Gating-clause-asked : goal.returns-in-Ok-Gating-clause-asked
returns-in-Ok-Gating-clause-asked g c = (refl, (rw c.in-Ok-Gating.field-0-is at c.in-Ok-Gating.ensures.answer, rw c.in-Ok-Gating.field-0-is at c.in-Ok-Gating.ensures.end))

pub returns-in-Ok-Idle-clause-asked : goal.returns-in-Ok-Idle-clause-asked
returns-in-Ok-Idle-clause-asked g c = (refl, (rw c.in-Ok-Idle.field-0-is at c.in-Ok-Idle.ensures.answer, rw c.in-Ok-Idle.field-0-is at c.in-Ok-Idle.ensures.end))

pub returns-in-Ok-Refused-clause-asked : goal.returns-in-Ok-Refused-clause-asked
returns-in-Ok-Refused-clause-asked g c = (refl, (rw c.in-Ok-Refused.field-0-is at c.in-Ok-Refused.ensures.answer, rw c.in-Ok-Refused.field-0-is at c.in-Ok-Refused.ensures.end))

pub returns-in-Err-clause-asked : goal.returns-in-Err-clause-asked
returns-in-Err-clause-asked g c = (refl, (tt, c.in-Err.ensures.end))
