-- What a poll hands over.
use Rattle.std.specs.Prelude.{ℕ}
use Rattle.dr_meaning.specs.declared.command.Polled.{Polled}
use Rattle.dr_meaning.specs.declared.command.Polled.TheVariants.{Batch}

-- how many events an answer hands over
abbrev pub handed : Polled → ℕ
handed (Batch first count last) = count
handed _ = 0
