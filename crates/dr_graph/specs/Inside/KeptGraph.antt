-- What a graph keeps, and what contracts see of it.
use Rattle.std.specs.Prelude.{◌≡◌, length, map}
use Rattle.dr_graph.specs.declared.built.Graph.TheInside.{Inside}
use Rattle.dr_graph.specs.Meaning.Name.{texts, AreDistinct}
use Rattle.dr_graph.specs.Meaning.Graph.{GraphView, IsGraph, finals}

abbrev pub shape_of : Inside → GraphView
shape_of a = record { names = texts a.names.items; upstreams = map (λ ups. ups.items) a.upstreams.items }

-- each handler has a name, and no two the same
pub record IsShape (shape : GraphView) : Type 0 where
  pub lawful : IsGraph shape.upstreams
  pub named : length shape.names ≡ length shape.upstreams
  pub distinct : AreDistinct shape.names

-- the finals are kept beside the shape
pub record IsKeptGraph (a : Inside) : Type 0 where
  pub shape : IsShape (shape_of a)
  pub finals_are : a.finals.items ≡ finals (shape_of a).upstreams
