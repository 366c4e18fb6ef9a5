use Rattle.dr_plain_senders.proofs.InPlaceSending.{claim_opens}
use Rattle.dr_plain_senders.proofs.in_place.SenderInPlaceInlet.try_claim.Goals as goal

pub returns-clause-opens : goal.returns-clause-opens
returns-clause-opens g c = claim_opens c.args.self.now c.try_claim.new.self c.args.n c.try_claim.result c.try_claim.ensures c.requires.closed
