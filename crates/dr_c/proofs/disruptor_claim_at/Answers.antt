use Rattle.dr_c.proofs.Placed.{at_places}
use Rattle.dr_c.proofs.disruptor_claim_at.Goals as goal

pub returns : goal.returns
returns c = at_places _ _ c.args.sender.now c.args.lo.now c.claim.new.sender c.index-sender-0.result c.claim.new.lo _ c.if-sender-ne1.false c.if-lo-ne1.false
    c.claim.ensures
