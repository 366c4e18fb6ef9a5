use Rattle.std.proofs.Common.{◌≡◌, ◌++◌, take}
use Rattle.dr_lock.proofs.end.End.receive_all.Given as goal

abbrev pub invariant-loop-event : goal.invariant-loop-event
invariant-loop-event g l = l.self ≡ record l.fn.self { given = l.fn.self.given ++ take l.event-index l.events }
