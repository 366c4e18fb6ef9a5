use Rattle.dr_graph.proofs.Unique.{one_graph}
use Rattle.dr_graph.proofs.laws.one_graph.Goals as goal

pub returns : goal.returns
returns c = one_graph
