use Rattle.dr_disruptor.proofs.ManyReady.{feeds_sent}
use Rattle.dr_disruptor.proofs.running_senders.fed.Goals as goal

pub returns-in-Ok-ended-clause-sent : goal.returns-in-Ok-ended-clause-sent
returns-in-Ok-ended-clause-sent g c =
    feeds_sent g.F.SendsBy.gives c.args.feeds.items c.in-Ok.feeders.items c.args.senders.items c.in-Ok-ended.sent.items c.in-Ok.ensures.0 c.in-Ok.ensures.1 c.in-Ok-ended.ensures
