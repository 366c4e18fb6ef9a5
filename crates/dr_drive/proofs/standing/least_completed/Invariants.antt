use Rattle.std.proofs.Common.{slice_index}
use Rattle.dr_graph.specs.Meaning.Graph.{is_final_without}
use Rattle.dr_meaning.proofs.Leasts.{IsLeastOf}
use Rattle.dr_core.specs.Calls.CoreView.{retired_in}
use Rattle.dr_drive.proofs.standing.least_completed.Given as goal

abbrev pub invariant-loop-h : goal.invariant-loop-h
invariant-loop-h l = IsLeastOf (is_final_without l.core.setup.upstreams (retired_in l.core)) (λ k. slice_index l.core.completed k) l.h l.found l.least
