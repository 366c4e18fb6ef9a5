use Rattle.std.proofs.Common.{◌≡◌, map, take}
use Rattle.dr_runs.proofs.plan.copy_upstreams.Given as goal

abbrev pub invariant-loop-handler : goal.invariant-loop-handler
invariant-loop-handler l = map (λ ups. ups.items) l.upstreams.items ≡ take l.handler l.graph.upstreams
