use Rattle.std.proofs.Common.{◌≡◌, length}
use Rattle.dr_seq.specs.Rounds.{entry_of}
use Rattle.dr_seq.specs.Stamped.{stamped}
use Rattle.dr_core.proofs.availability.mark_all.Given as goal

abbrev pub invariant-loop-k : goal.invariant-loop-k
invariant-loop-k l = l.rounds ≡ stamped (entry_of (length l.fn.rounds)) l.fn.rounds l.from l.k
