-- What holds of the counts of every state that some calls lead to.
use Rattle.std.specs.Prelude.{◌≡◌, ℕ, ◌+◌, ◌^◌, ◌<◌, ◌≤◌, Bool, false, List, length, Contains, slice_index}
use Rattle.dr_seq.specs.Size.{IsSize}
use Rattle.dr_graph.specs.Meaning.Graph.{upstreams_of, IsGraph}
use Rattle.dr_meaning.specs.Meaning.Machine.{Setup, handlers}

-- every core's setup: a graph, a size, and a limit that lets no sum of counts wrap
pub record IsSetup (c : Setup) : Type 0 where
  pub graph : IsGraph c.upstreams
  pub size : IsSize c.size
  pub limit : c.limit ≤ 2 ^ 62

-- the counts of handlers: each took no more than lies before the front and than each of its upstreams completed, and completed no more than it took
pub record AreInOrder (c : Setup) (upto : ℕ) (taken completed : List ℕ) : Type 0 where
  pub taken_len : length taken ≡ handlers c
  pub completed_len : length completed ≡ handlers c
  pub in_front : (h : ℕ) → slice_index taken h ≤ upto
  pub took : (h : ℕ) → slice_index completed h ≤ slice_index taken h
  pub after : (h u : ℕ) → Contains (upstreams_of c.upstreams h) u → slice_index taken h ≤ slice_index completed u

-- the claims: they are within the limit, and at most a round beyond what each handler that is left completed; one is left
pub record AreInBounds (c : Setup) (claims : ℕ) (completed : List ℕ) (gone : ℕ → Bool) : Type 0 where
  pub claimed : claims ≤ c.limit
  pub room : (h : ℕ) → h < handlers c → gone h ≡ false → claims ≤ c.size + slice_index completed h
  pub left : (h : ℕ) × (h < handlers c) × (gone h ≡ false)
