use Rattle.dr_c.proofs.Placed.{at_place}
use Rattle.dr_c.proofs.places.read_bytes.Goals as goal

pub returns : goal.returns
returns c = at_place _ _ c.args.receiver.now c.read_bytes.new.receiver c.index-receiver-0.result c.if-receiver-ne1.false c.read_bytes.ensures
