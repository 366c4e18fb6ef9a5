use Rattle.std.proofs.Common.{◌<◌, ◌^◌, ℕ}
use Rattle.std.specs.Prelude.{slice_index}
use Rattle.dr_c.proofs.amiss.are_in_order.Given as goal

abbrev pub invariant-loop-k : goal.invariant-loop-k
invariant-loop-k l = (k : ℕ) → k < l.k → slice_index l.masks k < 2 ^ k
