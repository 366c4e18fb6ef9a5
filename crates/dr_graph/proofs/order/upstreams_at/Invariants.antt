use Rattle.dr_graph.specs.Meaning.Graph.{AreChosen, leads_to}
use Rattle.dr_graph.proofs.order.upstreams_at.Given as goal

abbrev pub invariant-loop-u : goal.invariant-loop-u
invariant-loop-u l = AreChosen (leads_to l.edges l.order l.h) l.u l.ups.items
