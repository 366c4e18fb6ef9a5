use Rattle.std.proofs.Common.{◌≡◌, map, take}
use Rattle.dr_disruptor_lock.proofs.comparing.views.Given as goal

abbrev pub invariant-loop-p : goal.invariant-loop-p
invariant-loop-p l = map (λ s. s.now) l.all.items ≡ map (λ v. v.items) (take l.p l.fn.scripts)
