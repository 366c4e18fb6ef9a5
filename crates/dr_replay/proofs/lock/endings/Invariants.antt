use Rattle.std.proofs.Common.{◌≡◌, take}
use Rattle.dr_replay.specs.Calls.Workers.{lock_endings}
use Rattle.dr_replay.proofs.lock.endings.Given as goal

abbrev pub invariant-loop-p : goal.invariant-loop-p
invariant-loop-p l = l.all.items ≡ lock_endings l.fn.journal l.fn.replica l.fn.business (take l.p l.producers)
