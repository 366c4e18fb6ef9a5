use Rattle.std.proofs.Common.{◌≡◌, ◌<◌, ◌≤◌, length, take}
use Rattle.dr_meaning.specs.Calls.Calling.{SomeCalls}
use Rattle.dr_meaning.specs.Calls.Ends.{WhereShown, WritesAll}
use Rattle.dr_workers.proofs.Calling.{AreFirst}
use Rattle.dr_workers.proofs.retries.write_all.Given as goal

abbrev pub invariant-loop : goal.invariant-loop
invariant-loop g l =
    (goal.iterator-loop g).can_next l.iterator' × (goal.iterator-loop g).is_finite l.iterator'
    × (g.I.Inlet.kept l.inlet ≡ g.I.Inlet.kept l.fn.inlet) × (l.done ≤ length l.events)
    × WhereShown (WritesAll l.lo (take l.done l.events)) (g.I.Inlet.sent l.fn.inlet) (g.I.Inlet.sent l.inlet)
    × SomeCalls g.I.Inlet.does l.fn.inlet l.inlet (AreFirst l.lo l.events l.done)
    × (0 < length l.events → l.done < length l.events)
