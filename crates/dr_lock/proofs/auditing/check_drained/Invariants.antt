use Rattle.std.proofs.Common.{ℕ, ◌<◌}
use Rattle.dr_lock.specs.Inside.Auditing.{TookIn}
use Rattle.dr_lock.proofs.auditing.check_drained.Given as goal

abbrev pub invariant-loop-h : goal.invariant-loop-h
invariant-loop-h g l = (k : ℕ) → k < l.h → TookIn l.recorded.history.core l.count k
