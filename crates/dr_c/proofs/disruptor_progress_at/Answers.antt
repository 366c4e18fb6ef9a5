use Rattle.dr_c.proofs.Placed.{at_places}
use Rattle.dr_c.proofs.disruptor_progress_at.Goals as goal

pub returns : goal.returns
returns c = at_places _ _ c.args.handle.now c.args.counts.now c.progress.new.handle c.index-handle-0.result c.progress.new.counts _ c.if-handle-ne1.false
    c.if-counts-ne1.false c.progress.ensures
