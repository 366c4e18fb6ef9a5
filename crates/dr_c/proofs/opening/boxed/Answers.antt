use Rattle.dr_c.proofs.Crossing.{crosses}
use Rattle.dr_c.proofs.opening.boxed.Goals as goal

pub in_box-requires-send-T : goal.in_box-requires-send-T
in_box-requires-send-T c κs = search crosses depth 60 fits 20000
