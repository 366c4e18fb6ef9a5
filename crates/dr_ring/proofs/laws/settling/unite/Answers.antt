use Rattle.dr_runs.proofs.Cuts.{joins}
use Rattle.dr_ring.proofs.laws.settling.unite.Goals as goal

pub join_seat-requires : goal.join_seat-requires
join_seat-requires c = (c.requires.table.0, c.requires.table.1, c.requires.other, c.requires.table.2, joins _ _ _ _ _)
