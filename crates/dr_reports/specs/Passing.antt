-- The exchange of a replay on one thread.
use Rattle.std.specs.Prelude.{ℕ, List, [], ◌∷◌, codes}
use Rattle.dr_meaning.specs.Meaning.Machine.{Setup}
use Rattle.dr_core.specs.Calls.Passing.{single_setup}

-- journal, which is 0, and replica, which is 1, have no upstreams; business follows both
abbrev pub replay_graph : List (List ℕ)
replay_graph = [] ∷ [] ∷ (0 ∷ 1 ∷ []) ∷ []

-- the names of these handlers
abbrev pub replay_names : List (List ℕ)
replay_names = codes "journal" ∷ codes "replica" ∷ codes "business" ∷ []

-- a core of these handlers, with one producer
abbrev pub replay_setup : ℕ → Setup
replay_setup size = single_setup replay_graph size

-- each of the three handlers is done with as many
abbrev pub each : ℕ → List ℕ
each n = n ∷ n ∷ n ∷ []
