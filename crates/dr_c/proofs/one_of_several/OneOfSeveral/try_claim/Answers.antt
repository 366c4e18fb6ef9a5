use Rattle.dr_c.proofs.Claimed.{claim_keeps}
use Rattle.dr_c.proofs.one_of_several.OneOfSeveral.try_claim.Goals as goal

pub invariant_of-self : goal.invariant_of-self
invariant_of-self c = record {
  claims = claim_keeps c.args.self.now.sender c.try_claim.new.self c.args.n c.try_claim.result c.try_claim.ensures c.args.self.now.claims;
}
