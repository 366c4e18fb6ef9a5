use Rattle.dr_c.proofs.Placed.{at_place}
use Rattle.dr_c.proofs.places.write_bytes.Goals as goal

pub returns : goal.returns
returns c = at_place _ _ c.args.sender.now c.write_bytes.new.sender c.index-sender-0.result c.if-sender-ne1.false c.write_bytes.ensures
