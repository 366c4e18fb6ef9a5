use Rattle.dr_c.proofs.Placed.{at_place}
use Rattle.dr_c.proofs.disruptor_complete_at.Goals as goal

pub returns : goal.returns
returns c = at_place _ _ c.args.receiver.now c.complete.new.receiver c.index-receiver-0.result c.if-receiver-ne1.false c.complete.ensures
