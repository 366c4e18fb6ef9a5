use Rattle.dr_lock.proofs.Replies.{write_all_tells}
use Rattle.dr_lock.proofs.locked.LockedInletInlet.write_all.Goals as goal

pub returns-clause-answer : goal.returns-clause-answer
returns-clause-answer g c = write_all_tells _ _ _ _ _ c.write_all.ensures.answer
