use Rattle.std.proofs.Common.{ℕ, ◌<◌}
use Rattle.dr_lock.specs.Meaning.Audit.{scripts_of}
use Rattle.dr_lock.specs.Inside.Auditing.{SentIn}
use Rattle.dr_lock.proofs.auditing.check_scripts.Given as goal

abbrev pub invariant-loop-p : goal.invariant-loop-p
invariant-loop-p g l = (q : ℕ) → q < l.p → SentIn l.list (scripts_of l.scripts) q
