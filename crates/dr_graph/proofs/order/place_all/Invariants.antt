use Rattle.std.proofs.Common.{◌-◌, vec_len}
use Rattle.dr_graph.proofs.Orders.{IsPlacing}
use Rattle.dr_graph.proofs.order.place_all.Given as goal

abbrev pub invariant-loop-placed : goal.invariant-loop-placed
invariant-loop-placed l = IsPlacing l.count l.edges l.placed.items

abbrev pub decreases-loop-placed : goal.decreases-loop-placed
decreases-loop-placed l = l.count - vec_len l.placed
