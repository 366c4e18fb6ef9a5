use Rattle.std.proofs.Common.{◌≡◌}
use Rattle.disruptor_waits.proofs.rate.ThousandsFeedU64.feed.Given as goal

abbrev pub invariant-loop : goal.invariant-loop
invariant-loop g l = g.I.InPlaceInlet.kept l.sender ≡ g.I.InPlaceInlet.kept l.fn.sender
