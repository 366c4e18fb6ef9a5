use Rattle.dr_runs.proofs.Gathering.{compares}
use Rattle.dr_ring.proofs.laws.settling.compare.Goals as goal

pub load-requires : goal.load-requires
load-requires c = (c.requires.table.0, c.requires.table.1, compares _ _ _ _ _)

pub returns-clause-ran : goal.returns-clause-ran
returns-clause-ran c = c.load.ensures.2.1
