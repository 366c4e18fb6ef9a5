use Rattle.dr_plain.proofs.Making.{all_fresh}
use Rattle.dr_plain.proofs.opening.ring.Goals as goal

pub returns-in-Ok-clause-all : goal.returns-in-Ok-clause-all
returns-in-Ok-clause-all g c = all_fresh _ _ _ _ _ c.ends.ensures
