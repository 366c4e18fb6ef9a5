use Rattle.dr_c.proofs.Claimed.{write_keeps}
use Rattle.dr_c.proofs.one_of_several.OneOfSeveral.write.Goals as goal

pub invariant_of-self : goal.invariant_of-self
invariant_of-self c = record {
  claims = write_keeps c.args.self.now.sender c.write.new.self c.args.sequence c.args.event c.write.result c.write.ensures.call c.args.self.now.claims;
}
