use Rattle.dr_graph.proofs.Placed.{finds_graph}
use Rattle.dr_graph.proofs.laws.placed_graph.Goals as goal

pub returns : goal.returns
returns c = finds_graph
