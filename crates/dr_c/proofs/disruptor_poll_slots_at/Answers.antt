use Rattle.dr_c.proofs.Placed.{at_places}
use Rattle.dr_c.proofs.disruptor_poll_slots_at.Goals as goal

pub returns : goal.returns
returns c = at_places _ _ c.args.receiver.now c.args.offer.now c.poll_slots.new.receiver c.index-receiver-0.result c.poll_slots.new.offer _
    c.if-receiver-ne1.false c.if-offer-ne1.false c.poll_slots.ensures
