use Rattle.std.proofs.Common.{◌≡◌, ℕ, ◌<◌, ◌≤◌, ◌-◌, true}
use Rattle.dr_seq.specs.Rounds.{is_marked}
use Rattle.dr_seq.proofs.rounds.front_of.Given as goal

abbrev pub invariant-loop-front : goal.invariant-loop-front
invariant-loop-front l = record {
  low : l.from ≤ l.front;
  high : l.front ≤ l.to;
  below : (s : ℕ) → l.from ≤ s → s < l.front → is_marked l.entries s ≡ true;
}

abbrev pub decreases-loop-front : goal.decreases-loop-front
decreases-loop-front l = l.to - l.front
