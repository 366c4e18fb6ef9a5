use Rattle.std.specs.Prelude.{◌≡◌, ℕ, ◌<◌, ◌≤◌, true}
use Rattle.dr_runs.specs.OneSender.Noted.{is_noted}
use Rattle.dr_runs.proofs.written.Written.has_all.Given as goal

abbrev pub invariant-loop-sequence : goal.invariant-loop-sequence
invariant-loop-sequence l = (s : ℕ) → l.lo ≤ s → s < l.sequence → is_noted l.self s ≡ true
