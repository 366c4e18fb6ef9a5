use Rattle.std.proofs.Common.{◌≡◌, ◌≤◌, ◌-◌}
use Rattle.dr_meaning.specs.Calls.Filling.{FillsOne}
use Rattle.dr_disruptor.specs.Sending.{ClaimedInCuts, Fills, OnlyCalled, SendsAll}
use Rattle.dr_disruptor.proofs.sender.LiveSender.publish_each.Given as goal

abbrev pub invariant-loop-done : goal.invariant-loop-done
invariant-loop-done g l =
    (l.done ≤ l.count)
    × (g.I.InPlaceInlet.kept l.self ≡ g.I.InPlaceInlet.kept l.fn.self)
    × SendsAll (Fills (FillsOne g.F.Fn l.fill) 0) l.done (g.I.InPlaceInlet.sending l.fn.self).published (g.I.InPlaceInlet.sending l.self).published
    × ClaimedInCuts g.I.InPlaceInlet.kept g.I.InPlaceInlet.sending g.I.InPlaceInlet.does l.cut l.count l.fn.self l.self
    × OnlyCalled g.I.InPlaceInlet.does l.fn.self l.self

abbrev pub decreases-loop-done : goal.decreases-loop-done
decreases-loop-done g l = l.count - l.done
