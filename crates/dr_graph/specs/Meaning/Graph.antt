-- A built graph: handlers go by their number in the built order, and a graph is each handler's list of upstreams.
use Rattle.std.specs.Prelude.{◌≡◌, ℕ, ◌<◌, ◌≤◌, Bool, not, ◌&&◌, true, false, List, [], ◌∷◌, length, map, min, filter, Contains, slice_index, slice_index_or}
use Rattle.std.specs.List.{list_any, range_with_len}
use Rattle.std.specs.List.Sorted.{IsStrictlyIncreasing}
use Rattle.dr_graph.specs.declared.edge.Edge.{Edge}
use Rattle.dr_graph.specs.Meaning.Name.{Name}
use Rattle.dr_graph.specs.Meaning.Order.{is_in, is_upstream, IsBuiltOrder}
use Rattle.dr_graph.specs.Meaning.Declaration.{Declaration}

-- what contracts see of a graph: each handler's name, and its upstreams
pub record GraphView : Type 0 where
  pub names : List Name
  pub upstreams : List (List ℕ)

abbrev pub upstreams_of : List (List ℕ) → ℕ → List ℕ
upstreams_of graph h = slice_index_or graph h []

-- a set of handlers is the test of whether one is in it: the empty set, and the set that flags tell
abbrev pub nobody : ℕ → Bool
nobody h = false

abbrev pub flagged : List Bool → ℕ → Bool
flagged flags h = slice_index_or flags h false

-- one of the first handlers is not gone
abbrev pub is_some_left : ℕ → (ℕ → Bool) → Bool
is_some_left count gone = list_any (λ h. not (gone h)) (range_with_len 0 count)

-- a handler is a direct upstream of one that is not gone
abbrev pub is_followed : List (List ℕ) → (ℕ → Bool) → ℕ → Bool
is_followed graph gone h = list_any (λ k. not (gone k) && is_in (upstreams_of graph k) h) (range_with_len 0 (length graph))

-- where some handlers are gone, a final is one of the others, and upstream of none of them
abbrev pub is_final_without : List (List ℕ) → (ℕ → Bool) → ℕ → Bool
is_final_without graph gone h = not (gone h) && not (is_followed graph gone h)

abbrev pub finals_without : List (List ℕ) → (ℕ → Bool) → List ℕ
finals_without graph gone = filter (is_final_without graph gone) (range_with_len 0 (length graph))

-- a final handler is upstream of none
abbrev pub is_final : List (List ℕ) → ℕ → Bool
is_final graph h = is_final_without graph nobody h

abbrev pub finals : List (List ℕ) → List ℕ
finals graph = finals_without graph nobody

-- every upstream's number is below the handler's own
abbrev pub IsLayered : List (List ℕ) → Type 0
IsLayered graph = (h u : ℕ) → Contains (upstreams_of graph h) u → u < h

-- no handler's count is above an upstream's
abbrev pub IsOrderly : List (List ℕ) → (ℕ → ℕ) → Type 0
IsOrderly graph counts = (h u : ℕ) → Contains (upstreams_of graph h) u → counts h ≤ counts u

-- a handler has a final, of those that are not gone, that is no further than it
pub record IsGated (graph : List (List ℕ)) (gone : ℕ → Bool) (counts : ℕ → ℕ) (h : ℕ) : Type 0 where
  pub last : ℕ
  pub final : Contains (finals_without graph gone) last
  pub behind : counts last ≤ counts h

-- the law that gating rests on: whoever waits for all finals waits for every handler, also where some are gone
abbrev pub FinalsGate : List (List ℕ) → Type 0
FinalsGate graph = (gone : ℕ → Bool) (counts : ℕ → ℕ) → IsOrderly graph counts → (h : ℕ) → h < length graph → gone h ≡ false → IsGated graph gone counts h

-- what is so of every graph
pub record IsGraph (graph : List (List ℕ)) : Type 0 where
  pub some : 0 < length graph
  pub few : length graph ≤ 16
  pub layered : IsLayered graph
  pub rising : (h : ℕ) → IsStrictlyIncreasing (upstreams_of graph h)
  pub gate : FinalsGate graph

-- the least of some numbers
abbrev pub least_of : List ℕ → ℕ
least_of [] = 0
least_of (n ∷ []) = n
least_of (n ∷ m ∷ ms) = min n (least_of (m ∷ ms))

-- the least count of the finals
abbrev pub least_without : List (List ℕ) → (ℕ → Bool) → (ℕ → ℕ) → ℕ
least_without graph gone counts = least_of (map counts (finals_without graph gone))

-- the finals' least count is at most every handler's that is not gone
abbrev pub LeastGates : List (List ℕ) → Type 0
LeastGates graph =
    (gone : ℕ → Bool) (counts : ℕ → ℕ) → IsOrderly graph counts → (h : ℕ) → h < length graph → gone h ≡ false → least_without graph gone counts ≤ counts h

-- where more handlers go, and one is left, the finals' least count does not fall
abbrev pub LeastRises : List (List ℕ) → Type 0
LeastRises graph =
    (gone more : ℕ → Bool) → ((h : ℕ) → more h ≡ false → gone h ≡ false) → (counts : ℕ → ℕ) → IsOrderly graph counts
    → (h : ℕ) → h < length graph → more h ≡ false → least_without graph gone counts ≤ least_without graph more counts

-- the chosen numbers below a bound: rising, each once
pub record AreChosen (choose : ℕ → Bool) (bound : ℕ) (ns : List ℕ) : Type 0 where
  pub chosen : (n : ℕ) → Contains ns n → (n < bound) × (choose n ≡ true)
  pub all : (n : ℕ) → n < bound → choose n ≡ true → Contains ns n
  pub rising : IsStrictlyIncreasing ns

-- a handler is a direct upstream of another; both go by their numbers in an order
abbrev pub leads_to : List Edge → List ℕ → ℕ → ℕ → Bool
leads_to edges order h u = is_upstream edges (slice_index order u) (slice_index order h)

-- the lists of the first handlers of an order
abbrev pub AreLists : List Edge → List ℕ → List (List ℕ) → Type 0
AreLists edges order lists = (h : ℕ) → h < length lists → AreChosen (leads_to edges order h) h (upstreams_of lists h)

-- the names of an order of declared handlers
abbrev pub names_in : List Name → List ℕ → List Name
names_in declared order = map (λ h. slice_index_or declared h []) order

-- the graph of a declaration: its handlers in the built order, each with its name and exactly its direct upstreams
pub record IsGraphOf (d : Declaration) (graph : GraphView) : Type 0 where
  pub order : List ℕ
  pub built : IsBuiltOrder (length d.names) d.edges order
  pub named : graph.names ≡ names_in d.names order
  pub complete : length graph.upstreams ≡ length d.names
  pub upstreams : (h : ℕ) → h < length d.names → AreChosen (leads_to d.edges order h) (length d.names) (upstreams_of graph.upstreams h)

-- a declaration has one graph at most
abbrev pub HasOneGraph : Declaration → Type 0
HasOneGraph d = (graph other : GraphView) → IsGraphOf d graph → IsGraphOf d other → graph ≡ other
