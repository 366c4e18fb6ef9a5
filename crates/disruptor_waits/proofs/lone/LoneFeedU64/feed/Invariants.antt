use Rattle.std.proofs.Common.{◌≡◌}
use Rattle.disruptor_waits.proofs.lone.LoneFeedU64.feed.Given as goal

abbrev pub invariant-loop-number : goal.invariant-loop-number
invariant-loop-number g l = g.I.InPlaceInlet.kept l.sender ≡ g.I.InPlaceInlet.kept l.fn.sender
