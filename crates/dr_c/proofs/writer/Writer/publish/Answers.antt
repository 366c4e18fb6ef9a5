use Rattle.dr_c.proofs.Lengths.{publication_keeps}
use Rattle.dr_c.proofs.writer.Writer.publish.Goals as goal

pub invariant_of-self : goal.invariant_of-self
invariant_of-self c = record {
  fit = publication_keeps c.args.self.now.bytes c.args.lo c.args.hi c.args.self.now.sender c.publish.new.self c.publish.result
      c.publish.ensures c.args.self.now.fit;
}
