use Rattle.std.proofs.Common.{◌≡◌, ◌-◌, ◌≤◌, length, take, true}
use Rattle.dr_meaning.specs.Calls.Calling.{SomeCalls}
use Rattle.dr_meaning.specs.Calls.Ends.{WhereShown}
use Rattle.dr_workers.specs.Calls.Stops.{MayStop}
use Rattle.dr_workers.specs.Meaning.Work.{Adds, LeavesNothingOpen}
use Rattle.dr_workers.proofs.Sending.{Sending}
use Rattle.dr_workers.specs.Calls.Waits.{Provides}
use Rattle.dr_workers.proofs.Biding.{with_room}
use Rattle.dr_workers.proofs.producer.produce_with.Given as goal

abbrev pub invariant-loop-sent : goal.invariant-loop-sent
invariant-loop-sent g l =
    (l.sent ≤ length l.script) × (g.I.Inlet.kept l.inlet ≡ g.I.Inlet.kept l.fn.inlet)
    × (l.passages.who ≡ l.fn.who) × (l.passages.stopped ≡ true → MayStop g.G.Gate.may_stop l.gate l.fn.who)
    × WhereShown (Adds (take l.sent l.script)) (g.I.Inlet.sent l.fn.inlet) (g.I.Inlet.sent l.inlet)
    × WhereShown LeavesNothingOpen (g.I.Inlet.sent l.fn.inlet) (g.I.Inlet.sent l.inlet)
    × SomeCalls (Provides g.I.Inlet.does g.P.Patience.waits g.P.Patience.finds) (with_room l.fn.inlet l.fn.patience 0)
    (with_room l.inlet l.patience l.room) (Sending l.cut l.script (g.G.Gate.may_stop l.gate) (g.G.Gate.must_stop l.gate) l.fn.who l.sent l.passages)

abbrev pub decreases-loop-sent : goal.decreases-loop-sent
decreases-loop-sent g l = length l.script - l.sent
