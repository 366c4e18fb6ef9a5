-- The graph of a declaration, found from it: handlers are placed one after another, each time the first declared one that is ready.
use Rattle.std.specs.Prelude.{◌≡◌, ℕ, zero, suc, ◌==◌, if◌then◌else◌, Option, None, Some, List, [], ◌++◌, length, map, filter, take}
use Rattle.std.specs.List.{range_with_len}
use Rattle.dr_graph.specs.declared.edge.Edge.{Edge}
use Rattle.dr_graph.specs.Meaning.Order.{is_ready, AreWithin, HasCycle}
use Rattle.dr_graph.specs.Meaning.Declaration.{Declaration}
use Rattle.dr_graph.specs.Meaning.Graph.{GraphView, leads_to, names_in, IsGraphOf}

-- the first declared handler that is ready, alone, or none
abbrev pub first_ready : ℕ → List Edge → List ℕ → List ℕ
first_ready count edges placed = take 1 (filter (is_ready edges placed) (range_with_len 0 count))

-- the first n handlers of the built order: fewer where none is ready any more
unfoldable pub placed : ℕ → List Edge → ℕ → List ℕ
placed count edges zero = []
placed count edges (suc n) = placed count edges n ++ first_ready count edges (placed count edges n)

-- a handler's direct upstreams; all go by their numbers in an order
abbrev pub upstreams_in : List Edge → List ℕ → ℕ → List ℕ
upstreams_in edges order h = filter (leads_to edges order h) (range_with_len 0 (length order))

-- the handlers of an order, each with its name and its upstreams
abbrev pub shape_in : Declaration → List ℕ → GraphView
shape_in d order = record { names = names_in d.names order; upstreams = map (upstreams_in d.edges order) (range_with_len 0 (length order)) }

-- a whole order is a graph
abbrev pub shape_of_whole : Declaration → List ℕ → Option GraphView
shape_of_whole d order = if length order == length d.names then Some (shape_in d order) else None

-- the graph of a declaration, if all its handlers can be placed
abbrev pub graph_of : Declaration → Option GraphView
graph_of d = shape_of_whole d (placed (length d.names) d.edges (length d.names))

-- what is found is the graph of the declaration, and nothing is found exactly where there is a cycle
pub record FindsGraph (d : Declaration) : Type 0 where
  pub sound : (graph : GraphView) → graph_of d ≡ Some graph → IsGraphOf d graph
  pub whole : (graph : GraphView) → IsGraphOf d graph → graph_of d ≡ Some graph
  pub cyclic : AreWithin (length d.names) d.edges → graph_of d ≡ None → HasCycle d.edges
  pub acyclic : AreWithin (length d.names) d.edges → HasCycle d.edges → graph_of d ≡ None
