use Rattle.dr_c.proofs.Placed.{at_places}
use Rattle.dr_c.proofs.disruptor_completed_at.Goals as goal

pub returns : goal.returns
returns c = at_places _ _ c.args.halter.now c.args.count.now c.completed.new.halter c.index-halter-0.result c.completed.new.count _ c.if-halter-ne1.false
    c.if-count-ne1.false c.completed.ensures
