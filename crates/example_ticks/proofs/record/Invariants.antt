use Rattle.example_ticks.specs.Promises.{HasCounted}
use Rattle.example_ticks.proofs.record.Given as goal

abbrev pub invariant-loop : goal.invariant-loop
invariant-loop g l =
    (goal.iterator-loop g).can_next l.iterator' × (goal.iterator-loop g).is_finite l.iterator' × HasCounted l.fn.receiver l.receiver l.recorder
