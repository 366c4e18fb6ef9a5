use Rattle.dr_lock.proofs.shared.Shared.call.Goals as goal

pub returns-clause-answer : goal.returns-clause-answer
returns-clause-answer g c = c.call.ensures.answer

pub returns-clause-rest : goal.returns-clause-rest
returns-clause-rest g c = c.call.ensures.rest

pub returns-clause-unchanged : goal.returns-clause-unchanged
returns-clause-unchanged g c = c.call.ensures.unchanged

pub returns-clause-end : goal.returns-clause-end
returns-clause-end g c = c.call.ensures.end
