use Rattle.std.proofs.Common.{◌∙◌, sym, ap, List, String, Global}
use Rattle.std.specs.Prelude.{position}
use Rattle.std.specs.Str.{bytes_eq}
use Rattle.dr_graph.proofs.Adding.{text}
use Rattle.dr_graph.proofs.Places.{position_map}
use Rattle.dr_graph.proofs.built.Graph.position.Goals as goal

pub returns : goal.returns
returns c =
    rw (← c.self.view_is)
    (c.place_in.ensures
    ∙ ap (λ (ks : List (String Global)). position (λ other. bytes_eq c.args.name.now (text other)) ks) c.as_slice.ensures.value
    ∙ sym (position_map text c.args.name.now c.self.inside.names.items))
