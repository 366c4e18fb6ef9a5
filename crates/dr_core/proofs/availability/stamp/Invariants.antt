use Rattle.std.proofs.Common.{◌≡◌}
use Rattle.dr_seq.specs.Stamped.{stamped}
use Rattle.dr_core.proofs.availability.stamp.Given as goal

abbrev pub invariant-loop-k : goal.invariant-loop-k
invariant-loop-k l = l.owners ≡ stamped (λ s. l.p) l.fn.owners l.from l.k
