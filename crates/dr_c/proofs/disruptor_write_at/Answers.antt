use Rattle.dr_c.proofs.Placed.{reads_at}
use Rattle.dr_c.proofs.disruptor_write_at.Goals as goal

pub returns : goal.returns
returns c = reads_at _ _ c.args.event.now _ c.if-event-ne1.false c.write.ensures
