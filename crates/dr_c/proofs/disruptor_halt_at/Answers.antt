use Rattle.dr_c.proofs.Placed.{at_place}
use Rattle.dr_c.proofs.disruptor_halt_at.Goals as goal

pub returns : goal.returns
returns c = at_place _ _ c.args.halter.now c.halt.new.halter c.index-halter-0.result c.if-halter-ne1.false c.halt.ensures
