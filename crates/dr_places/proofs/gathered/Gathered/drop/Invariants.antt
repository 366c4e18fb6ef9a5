use Rattle.std.proofs.Common.{length}
use Rattle.dr_places.proofs.gathered.Gathered.drop.Given as goal

abbrev pub decreases-loop-left : goal.decreases-loop-left
decreases-loop-left g l = length l.all
