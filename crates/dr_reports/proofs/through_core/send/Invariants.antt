use Rattle.std.proofs.Common.{◌+◌}
use Rattle.dr_reports.proofs.Sending.{InHand}
use Rattle.dr_reports.proofs.through_core.send.Given as goal

abbrev pub invariant-loop-s : goal.invariant-loop-s
invariant-loop-s l = InHand l.fn.core.setup.size l.fn.events (l.fn.at + l.fn.n) l.s l.fn.at l.core
