-- The looks of a ring with one sender at handlers' counts.
use Rattle.std.specs.Prelude.{ℕ, List}
use Rattle.dr_runs.specs.declared.look.Look.{Look}
use Rattle.dr_runs.specs.Looks.{looks_at}
use Rattle.dr_runs.specs.OneSender.Words.{count_word}

-- looks at the counts of some handlers
abbrev pub count_looks : List ℕ → List ℕ → List Look
count_looks hs counts = looks_at count_word hs counts
