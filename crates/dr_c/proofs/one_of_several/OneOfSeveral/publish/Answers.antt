use Rattle.dr_c.proofs.Claimed.{publication_keeps}
use Rattle.dr_c.proofs.one_of_several.OneOfSeveral.publish.Goals as goal

pub invariant_of-self : goal.invariant_of-self
invariant_of-self c = record {
  claims = publication_keeps c.args.self.now.sender c.publish.new.self c.args.lo c.args.hi c.publish.result c.publish.ensures.call c.args.self.now.claims;
}
