use Rattle.dr_c.proofs.Placed.{at_place}
use Rattle.dr_c.proofs.disruptor_publish_slots_at.Goals as goal

pub returns : goal.returns
returns c = at_place _ _ c.args.sender.now c.publish_slots.new.sender c.index-sender-0.result c.if-sender-ne1.false c.publish_slots.ensures
