use Rattle.std.proofs.Common.{◌≡◌, map, slice_index, take}
use Rattle.dr_graph.specs.Meaning.Graph.{least_of}
use Rattle.dr_core.proofs.least.least_count.Given as goal

abbrev pub invariant-loop-i : goal.invariant-loop-i
invariant-loop-i l = l.least ≡ least_of (map (λ h. slice_index l.counts h) (take l.i l.handlers))
