use Rattle.dr_c.proofs.OpenedSeveral.{fresh_claimed}
use Rattle.dr_c.proofs.opening_several.ends.Goals as goal

pub each_of_several-requires : goal.each_of_several-requires
each_of_several-requires c = fresh_claimed _ _ _ _ c.in-Ok-ring.ensures.made.1
