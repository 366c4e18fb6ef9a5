use Rattle.std.proofs.Common.{◌-◌, ◌≤◌}
use Rattle.dr_plain_senders.specs.Inside.Fits.{SenderFits}
use Rattle.dr_plain_senders.proofs.RunsOn.{PublishesOn}
use Rattle.dr_plain_senders.proofs.publishing.publish_all.Given as goal

abbrev pub invariant-loop-next : goal.invariant-loop-next
invariant-loop-next g l = SenderFits l.station l.owned l.end l.tokens.items × (l.lo ≤ l.next) × (l.next ≤ l.upto)
    × PublishesOn l.fn.station l.fn.owned l.fn.tokens.items l.lo l.next l.upto l.station l.owned l.tokens.items

abbrev pub decreases-loop-next : goal.decreases-loop-next
decreases-loop-next g l = l.upto - l.next
