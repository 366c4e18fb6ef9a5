use Rattle.std.proofs.Common.{length}
use Rattle.dr_cells.proofs.values.Values.drop.Given as goal

abbrev pub decreases-loop-value : goal.decreases-loop-value
decreases-loop-value g l = length l.values
