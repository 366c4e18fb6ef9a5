use Rattle.std.proofs.Common.{◌≡◌, length}
use Rattle.std.specs.Prelude.{All, Ok}
use Rattle.dr_disruptor.proofs.events.new_events.Given as goal

abbrev pub invariant-loop : goal.invariant-loop
invariant-loop g l = (length l.events.items ≡ l.counter) × All (λ event. goal.F-post g l.make (Ok event)) l.events.items
