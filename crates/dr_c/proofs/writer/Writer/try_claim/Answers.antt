use Rattle.dr_c.proofs.Lengths.{claim_keeps}
use Rattle.dr_c.proofs.writer.Writer.try_claim.Goals as goal

pub invariant_of-self : goal.invariant_of-self
invariant_of-self c = record {
  fit = claim_keeps c.args.self.now.bytes c.args.n c.args.self.now.sender c.try_claim.new.self c.try_claim.result
      c.try_claim.ensures c.args.self.now.fit;
}
