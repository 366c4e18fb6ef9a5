-- What an end found at its last looks.
use Rattle.std.specs.Prelude.{ℕ, ◌-◌, List, drop, length, map}
use Rattle.dr_runs.specs.declared.look.Look.{Look}

-- the values that it found at the last n of them
abbrev pub found_last : ℕ → List Look → List ℕ
found_last n looks = map (λ x. x.value) (drop (length looks - n) looks)
