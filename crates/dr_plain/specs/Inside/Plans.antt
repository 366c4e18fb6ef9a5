-- What a plan's fields have to do with one another.
use Rattle.std.specs.Prelude.{◌≡◌, ℕ, List}
use Rattle.dr_graph.specs.Meaning.Graph.{finals}
use Rattle.dr_plain.specs.Meaning.Shape.{Shape}
use Rattle.dr_plain.specs.Meaning.Words.{slots_of}
use Rattle.dr_plain.specs.Calls.Plans.{IsPlan}

-- its final handlers and its number of slots are those of what it is made for
pub record PlanFits (k : Shape) (ends : List ℕ) (count : ℕ) : Type 0 where
  pub made : IsPlan k
  pub finals : ends ≡ finals k.upstreams
  pub slots : count ≡ slots_of k
