use Rattle.dr_c.proofs.Placed.{at_places}
use Rattle.dr_c.proofs.disruptor_cursor_at.Goals as goal

pub returns : goal.returns
returns c = at_places _ _ c.args.halter.now c.args.count.now c.cursor.new.halter c.index-halter-0.result c.cursor.new.count _ c.if-halter-ne1.false
    c.if-count-ne1.false c.cursor.ensures
