use Rattle.dr_c.proofs.Placed.{at_places}
use Rattle.dr_c.proofs.places.open.Goals as goal

pub returns : goal.returns
returns c = at_places _ _ c.args.sender.now c.args.halter.now c.open.new.sender c.index-sender-0.result c.open.new.halter c.index-halter-0.result
    c.if-sender-ne1.false c.if-halter-ne1.false c.open.ensures
