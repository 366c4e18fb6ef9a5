-- Declared handlers go by number, from 0. What follows from a list of edges: paths, cycles, and the order in which handlers are built.
use Rattle.std.specs.Prelude.{◌≡◌, ℕ, ◌<◌, Bool, true, false, not, ◌&&◌, ◌||◌, ◌==◌, List, [], ◌∷◌, ◌++◌, length, take, slice_index}
use Rattle.std.specs.List.{list_any, list_all}
use Rattle.dr_graph.specs.declared.edge.Edge.{Edge}

abbrev pub is_in : List ℕ → ℕ → Bool
is_in hs h = list_any (λ k. k == h) hs

-- a handler is a direct upstream of another
abbrev pub is_upstream : List Edge → ℕ → ℕ → Bool
is_upstream edges up down = list_any (λ e. (e.up == up) && (e.down == down)) edges

-- a path: each handler is a direct upstream of the one after it. It starts at a handler and goes on through the list
abbrev pub IsPath : List Edge → ℕ → List ℕ → Type 0
IsPath edges from [] = Unit {0}
IsPath edges from (h ∷ hs) = (is_upstream edges from h ≡ true) × IsPath edges h hs

-- a path of at least two entries that begins and ends with the same handler
pub record HasCycle (edges : List Edge) : Type 0 where
  pub handler : ℕ
  pub between : List ℕ
  pub path : IsPath edges handler (between ++ handler ∷ [])

-- both ends of each edge are declared
abbrev pub AreWithin : ℕ → List Edge → Type 0
AreWithin count edges = (up down : ℕ) → is_upstream edges up down ≡ true → (up < count) × (down < count)

-- a handler is ready where it is not placed, and all its upstreams are
abbrev pub is_ready : List Edge → List ℕ → ℕ → Bool
is_ready edges placed h = not (is_in placed h) && list_all (λ e. not (e.down == h) || is_in placed e.up) edges

-- the first declared handler that is ready
pub record IsNext (count : ℕ) (edges : List Edge) (placed : List ℕ) (h : ℕ) : Type 0 where
  pub declared : h < count
  pub ready : is_ready edges placed h ≡ true
  pub first : (j : ℕ) → j < h → is_ready edges placed j ≡ false

-- each entry is the first declared handler that is ready after those before it
abbrev pub IsInOrder : ℕ → List Edge → List ℕ → Type 0
IsInOrder count edges order = (k : ℕ) → k < length order → IsNext count edges (take k order) (slice_index order k)

-- the built order: all handlers, each once
pub record IsBuiltOrder (count : ℕ) (edges : List Edge) (order : List ℕ) : Type 0 where
  pub length : length order ≡ count
  pub all : (h : ℕ) → h < count → is_in order h ≡ true
  pub each : IsInOrder count edges order
