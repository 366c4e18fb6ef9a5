use Rattle.std.proofs.Common.{◌≡◌, ◌<◌, ℕ, length}
use Rattle.dr_graph.specs.Meaning.Graph.{flagged}
use Rattle.dr_core.specs.Calls.CoreView.{retired_in}
use Rattle.dr_drive.proofs.standing.retired_flags.Given as goal

abbrev pub invariant-loop-h : goal.invariant-loop-h
invariant-loop-h l = record {
  long : length l.flags ≡ 16;
  told : (k : ℕ) → k < l.h → flagged l.flags k ≡ retired_in l.core k;
}
