use Rattle.dr_ring.proofs.Making.{all_fresh}
use Rattle.dr_ring.proofs.opening.ring.Goals as goal

pub returns-clause-all : goal.returns-clause-all
returns-clause-all c = all_fresh _ _ _ _ c.in_ok-ends.ensures
