use Rattle.dr_runs.proofs.Elements.{at_index}
use Rattle.dr_lent.proofs.rows.at.Goals as goal

pub returns : goal.returns
returns g c = at_index _ _ _ c.requires c.index.ensures
