use Rattle.dr_runs.proofs.Elements.{at_index}
use Rattle.dr_disruptor.proofs.sender.fn.LiveSender.publish_all.publish_each.Goals as goal

pub returns-in-Some : goal.returns-in-Some
returns-in-Some g c = λ below. at_index c.captures.events.now c.args.k c.in-Some.next.now below c.in-Some.ensures.lookup.1
