-- What a handler makes of a reading.
use Rattle.std.specs.Prelude.{ℕ, ◌+◌, ◌%◌, ◌^◌, nat_lt, if◌then◌else◌}
use Rattle.example_here.specs.declared.Stage.{Stage}
use Rattle.example_here.specs.declared.Stage.TheVariants.{Archive, Alert}

-- a stage after one more reading
abbrev pub stage_after : Stage → ℕ → Stage
stage_after (Archive total) reading = Archive ((total + reading) % 2 ^ 64)
stage_after (Alert count) reading =
    Alert (if nat_lt 90 reading then (count + 1) % 2 ^ 64 else count)
