use Rattle.dr_c.proofs.Unwritten.{never_unwritten}
use Rattle.dr_c.proofs.writer.Writer.publish_slots.Goals as goal

pub returns-clause-written : goal.returns-clause-written
returns-clause-written c =
    never_unwritten c.write_lying.new.self c.publish.new.self.sender c.args.lo c.args.hi c.publish.result c.publish.ensures.call c.write_lying.ensures.written
