-- The graph that masks ask for: handlers named by their numbers, and an edge for each bit of one before.
use Rattle.std.specs.Prelude.{◌≡◌, ◌↔◌, ◌⊎◌, ℕ, ◌<◌, ◌≤◌, true, List, length, map, decimal, slice_index}
use Rattle.std.specs.List.{range_with_len}
use Rattle.dr_graph.specs.declared.edge.Edge.{Edge}
use Rattle.dr_graph.specs.Meaning.Declaration.{Declaration}
use Rattle.dr_graph.specs.Meaning.Graph.{GraphView, IsGraphOf}
use Rattle.dr_graph.specs.Meaning.Name.{Name}
use Rattle.dr_graph.specs.Meaning.Order.{is_upstream}
use Rattle.dr_c.specs.OpenFault.{AreInOrder}
use Rattle.dr_c.specs.Opening.{has_bit}

-- masks of which nothing is amiss
abbrev pub AreAllowed : List ℕ → Type 0
AreAllowed masks = (0 < length masks) × (length masks ≤ 16) × AreInOrder masks

-- so many handlers, each named by its number
abbrev pub numbered : ℕ → List Name
numbered handlers = map decimal (range_with_len 0 handlers)

-- a handler's mask has the bit of one before it
abbrev pub Asks : List ℕ → ℕ → ℕ → Type 0
Asks masks up handler = (handler < length masks) × (up < handler) × (has_bit (slice_index masks handler) up ≡ true)

-- the edges that are asked for to the handlers before one, and to it from the first so many
abbrev pub AreAsked : List ℕ → ℕ → ℕ → List Edge → Type 0
AreAsked masks handler upto edges =
    (u h : ℕ) → (is_upstream edges u h ≡ true) ↔ (Asks masks u h × ((h < handler) ⊎ ((h ≡ handler) × (u < upto))))

-- what masks declare
pub record IsAskedBy (masks : List ℕ) (d : Declaration) : Type 0 where
  pub names : d.names ≡ numbered (length masks)
  pub edges : (u h : ℕ) → (is_upstream d.edges u h ≡ true) ↔ Asks masks u h

-- and its graph
pub record IsGraphOfMasks (masks : List ℕ) (graph : GraphView) : Type 0 where
  pub declared : Declaration
  pub asked : IsAskedBy masks declared
  pub built : IsGraphOf declared graph
