-- What is so of every ring's plan.
use Rattle.std.specs.Prelude.{◌^◌, ◌<◌, ◌≤◌}
use Rattle.dr_seq.specs.Size.{IsSize}
use Rattle.dr_graph.specs.Meaning.Graph.{IsGraph}
use Rattle.dr_plain_senders.specs.Meaning.Shape.{Shape, handlers_of}

-- a graph of 16 handlers at most, a size, a limit of at most 2^62 sequences, and 1 to 16 senders
pub record IsPlan {T : Type 0} (k : Shape T) : Type 0 where
  pub graph : IsGraph k.upstreams
  pub few : handlers_of k ≤ 16
  pub size : IsSize k.size
  pub some_limit : 0 < k.limit
  pub limit : k.limit ≤ 2 ^ 62
  pub some_sender : 0 < k.senders
  pub few_senders : k.senders ≤ 16
