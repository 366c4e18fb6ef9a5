use Rattle.std.proofs.Common.{slice_index}
use Rattle.dr_graph.specs.Meaning.Graph.{flagged}
use Rattle.dr_meaning.proofs.Leasts.{IsLeastOf}
use Rattle.dr_core.proofs.least.least_flagged.Given as goal

abbrev pub invariant-loop-h : goal.invariant-loop-h
invariant-loop-h l = IsLeastOf (flagged l.flags) (λ h. slice_index l.counts h) l.h l.found l.least
