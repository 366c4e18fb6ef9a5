use Rattle.dr_c.proofs.Lengths.{close_keeps}
use Rattle.dr_c.proofs.writer.Writer.close.Goals as goal

pub invariant_of-self : goal.invariant_of-self
invariant_of-self c = record {
  fit = close_keeps c.args.self.now.bytes c.args.self.now.sender c.close.new.self c.close.result c.close.ensures c.args.self.now.fit;
}
