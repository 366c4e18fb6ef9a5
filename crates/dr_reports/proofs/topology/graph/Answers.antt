use Rattle.std.proofs.Common.{◌≡◌, ◌∷◌, [], ap, codes}
use Rattle.dr_graph.specs.Meaning.Name.{given}
use Rattle.dr_reports.proofs.Graphs.{declared, declares, is_its_graph, replay_shape}
use Rattle.dr_reports.proofs.topology.graph.Goals as goal

pub returns-in-Ok-build : goal.returns-in-Ok-build
returns-in-Ok-build c =
    let first : given c.as_slice.result.now ≡ codes "journal" ∷ codes "replica" ∷ [] = ap given c.as_slice.ensures in
    let later : given c.as_slice-2.result.now ≡ codes "business" ∷ [] = ap given c.as_slice-2.ensures in
    let is : c.then.new.self ≡ declared = declares c.new-builder.result c.handle_with.new.self c.then.new.self c.in-Ok.first (given c.as_slice.result.now) (given c.as_slice-2.result.now)
    c.new-builder.ensures.names c.new-builder.ensures.edges first later c.in-Ok.ensures.declared c.in-Ok.ensures.group c.in-Ok-then.ensures.declared in
    let same : c.in-Ok-build.graph ≡ replay_shape = c.one_graph.ensures declared c.in-Ok-build.graph replay_shape (rw is at c.in-Ok-build.ensures.built) is_its_graph in
    record { graph = ap (λ shape. shape.upstreams) same; names = ap (λ shape. shape.names) same }
