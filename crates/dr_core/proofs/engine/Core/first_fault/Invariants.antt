use Rattle.std.proofs.Common.{◌≡◌, ℕ, ◌<◌, ◌+◌, None}
use Rattle.dr_core.specs.Inside.Availability.{publish_fault}
use Rattle.dr_core.specs.Calls.CoreView.{known_at}
use Rattle.dr_core.proofs.engine.Core.first_fault.Given as goal

abbrev pub invariant-loop-k : goal.invariant-loop-k
invariant-loop-k g l = (j : ℕ) → j < l.k → publish_fault (known_at l.self (l.from + j)) l.p ≡ None
