-- What a plan's fields have to do with one another.
use Rattle.std.specs.Prelude.{◌≡◌, ℕ, List}
use Rattle.dr_graph.specs.Meaning.Graph.{finals}
use Rattle.dr_plain_senders.specs.Meaning.Shape.{Shape}
use Rattle.dr_plain_senders.specs.Meaning.Words.{words_of, slots_of}
use Rattle.dr_plain_senders.specs.Calls.Plans.{IsPlan}

-- its final handlers and its numbers of words and of slots are those of what it is made for
pub record PlanFits {T : Type 0} (k : Shape T) (ends : List ℕ) (word_count slot_count : ℕ) : Type 0 where
  pub made : IsPlan k
  pub finals : ends ≡ finals k.upstreams
  pub words : word_count ≡ words_of k
  pub slots : slot_count ≡ slots_of k
