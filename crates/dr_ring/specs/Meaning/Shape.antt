-- What a ring is made for.
use Rattle.std.specs.Prelude.{ℕ, ◌<◌, List, length}
use Rattle.dr_graph.specs.Meaning.Graph.{IsGraph}
use Rattle.dr_meaning.specs.declared.mode.Mode.TheVariants.{Single}
use Rattle.dr_meaning.specs.Meaning.Machine.{Setup}

-- each handler's direct upstreams, the number of slots, and the limit of sequences
pub record Shape : Type 0 where
  pub upstreams : List (List ℕ)
  pub size : ℕ
  pub limit : ℕ

abbrev pub handlers_of : Shape → ℕ
handlers_of k = length k.upstreams

-- the machine that a ring does the work of: it has one producer
abbrev pub ring_setup : Shape → Setup
ring_setup k = record { upstreams = k.upstreams; size = k.size; mode = Single; limit = k.limit }

-- a graph, and some slots
pub record IsShape (k : Shape) : Type 0 where
  pub graph : IsGraph k.upstreams
  pub some_slot : 0 < k.size
