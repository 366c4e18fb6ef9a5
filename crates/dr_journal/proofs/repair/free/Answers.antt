use Rattle.std.proofs.Common.{arith}
use Rattle.dr_journal.proofs.Repairs.{ends_within}
use Rattle.dr_journal.proofs.repair.free.Goals as goal

pub close-requires-clause-whole : goal.close-requires-clause-whole
close-requires-clause-whole g c = omega (arith, c.requires.end, c.requires.len, ends_within (g.D.Device.seen c.args.device.now) c.requires.journal)

pub overflow_add-result : goal.overflow_add-result
overflow_add-result g c = omega (arith, c.requires.end, c.requires.len, c.requires.small, ends_within (g.D.Device.seen c.args.device.now) c.requires.journal)
