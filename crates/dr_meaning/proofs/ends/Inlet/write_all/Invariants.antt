use Rattle.std.proofs.Common.{◌≡◌, ◌+◌, ◌<◌, ℕ, Ok, take}
use Rattle.dr_meaning.specs.Calls.Calling.{CallsLead, each_written}
use Rattle.dr_meaning.specs.Calls.Ends.{WhereShown, WriteAnswers, WritesAll}
use Rattle.dr_meaning.proofs.ends.Inlet.write_all.Given as goal

abbrev pub invariant-loop-k : goal.invariant-loop-k
invariant-loop-k g l =
    (g.Self.Inlet.kept l.self ≡ g.Self.Inlet.kept l.fn.self)
    × ((k : ℕ) → k < l.k → WriteAnswers (g.Self.Inlet.sent l.fn.self) (l.lo + k) (Ok tt))
    × WhereShown (WritesAll l.lo (take l.k l.events)) (g.Self.Inlet.sent l.fn.self) (g.Self.Inlet.sent l.self)
    × CallsLead g.Self.Inlet.does l.fn.self (each_written l.lo (take l.k l.events)) l.self
