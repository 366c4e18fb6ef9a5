use Rattle.dr_show.specs.Inside.Sequences.{claimed_by}
use Rattle.dr_show.proofs.sequences.Recents.get.Goals as goal

pub returns : goal.returns
returns c = c.get.ensures (claimed_by 0)
