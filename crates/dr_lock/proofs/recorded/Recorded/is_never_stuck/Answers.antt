use Rattle.std.proofs.Common.{subst}
use Rattle.dr_graph.specs.Meaning.Graph.{IsGraph}
use Rattle.dr_lock.proofs.recorded.Recorded.is_never_stuck.Goals as goal

pub returns : goal.returns
returns g c =
    let graph = subst (λ upstreams. IsGraph upstreams) c.graph.ensures.upstreams c.len-handlers.ensures.lawful in
    rw (← c.self.view_is) (c.self.invariant, c.nobody_is_stuck.ensures _ _ _ graph c.self.invariant.runs.leads)
