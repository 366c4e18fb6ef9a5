use Rattle.dr_c.proofs.Placed.{at_places}
use Rattle.dr_c.proofs.places.poll.Goals as goal

pub returns : goal.returns
returns c = at_places _ _ c.args.receiver.now c.args.offer.now c.poll.new.receiver c.index-receiver-0.result c.poll.new.offer _ c.if-receiver-ne1.false
    c.if-offer-ne1.false c.poll.ensures
