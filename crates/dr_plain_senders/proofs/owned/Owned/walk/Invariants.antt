use Rattle.std.specs.Prelude.{◌≡◌, ℕ, ◌<◌, ◌≤◌, true}
use Rattle.dr_plain_senders.specs.Inside.Owned.{is_ready}
use Rattle.dr_plain_senders.proofs.owned.Owned.walk.Given as goal

abbrev pub invariant-loop-sequence : goal.invariant-loop-sequence
invariant-loop-sequence l = (s : ℕ) → l.from ≤ s → s < l.sequence → is_ready l.self s ≡ true
