use Rattle.std.proofs.Common.{rules, refl}
use Rattle.dr_c.proofs.Lengths.{update_writes, update_keeps}
use Rattle.dr_c.proofs.writer.Writer.write.Goals as goal

pub invariant_of-self : goal.invariant_of-self
invariant_of-self c = record {
  fit = update_keeps c.args.self.now.bytes c.args.bytes.now _ (λ was now k many. search rules) c.requires c.args.self.now.sender c.args.sequence
      c.update.new.self c.update.result c.args.self.now.fit c.update.ensures;
}

pub returns : goal.returns
returns c = record {
  bytes = refl;
  call = update_writes c.args.self.now.bytes c.args.bytes.now _ (λ was now k many. search rules) c.requires c.args.self.now.sender c.args.sequence
      c.update.new.self c.update.result c.args.self.now.fit c.update.ensures;
}
