use Rattle.std.proofs.Common.{◌≡◌, ◌+◌, drop, length}
use Rattle.std.specs.Prelude.{sum_by}
use Rattle.dr_disruptor_lock.proofs.running.events_in.Given as goal

-- what is counted so far, and the scripts that are yet to come
abbrev pub invariant-loop-script : goal.invariant-loop-script
invariant-loop-script l = l.events + sum_by (λ s. length s.items) (drop l.script-index l.scripts) ≡ sum_by (λ s. length s.items) l.scripts
