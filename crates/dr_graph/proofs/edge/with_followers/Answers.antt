use Rattle.std.proofs.Common.{sym, ◌∙◌, ap, ◌++◌, List, append_assoc}
use Rattle.dr_graph.specs.declared.edge.Edge.{Edge}
use Rattle.std.specs.List.{range_with_len}
use Rattle.std.proofs.Common.{◌-◌}
use Rattle.dr_graph.specs.Meaning.Declaration.{edges_to, edges_between}
use Rattle.dr_graph.proofs.Following.{between_more}
use Rattle.dr_graph.proofs.edge.with_followers.Goals as goal

pub loop-down-preserved : goal.loop-down-preserved
loop-down-preserved c =
    c.in_ok-add_edges.ensures
    ∙ ap (λ (es : List Edge). es ++ edges_to c.args.ups.now c.loop-down.down) c.loop-down.invariant
    ∙ append_assoc c.args.edges.now (edges_between c.args.ups.now (range_with_len c.args.first (c.loop-down.down - c.args.first))) (edges_to c.args.ups.now c.loop-down.down)
    ∙ ap (λ (es : List Edge). c.args.edges.now ++ es) (sym (between_more c.args.ups.now c.args.first c.loop-down.down c.loop-down.auto.down))
