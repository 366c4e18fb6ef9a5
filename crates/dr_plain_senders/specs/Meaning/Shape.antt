-- What a ring is made for.
use Rattle.std.specs.Prelude.{ℕ, ◌^◌, ◌<◌, List, length}
use denote.RawPtr.{Ptr}
use Rattle.dr_graph.specs.Meaning.Graph.{IsGraph}
use Rattle.dr_meaning.specs.declared.mode.Mode.TheVariants.{Multi}
use Rattle.dr_meaning.specs.Meaning.Machine.{Setup}

-- each handler's direct upstreams, the number of slots, the limit of sequences, how many senders there are, where the cells lie,
-- and the events that lie there as the ring begins, in their order
pub record Shape (T : Type 0) : Type 0 where
  pub upstreams : List (List ℕ)
  pub size : ℕ
  pub limit : ℕ
  pub senders : ℕ
  pub strip : Ptr
  pub begun : List T

abbrev pub handlers_of : {T : Type 0} → Shape T → ℕ
handlers_of k = length k.upstreams

-- the machine that a ring does the work of: it has several producers
abbrev pub ring_setup : {T : Type 0} → Shape T → Setup
ring_setup k = record { upstreams = k.upstreams; size = k.size; mode = Multi k.senders; limit = k.limit }

-- a graph, some slots, and a limit that leaves the highest bit of a word free
pub record IsShape {T : Type 0} (k : Shape T) : Type 0 where
  pub graph : IsGraph k.upstreams
  pub some_slot : 0 < k.size
  pub small : k.limit < 2 ^ 63
