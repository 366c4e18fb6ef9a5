use Rattle.dr_operations.proofs.Carried.{filed}
use Rattle.dr_operations.proofs.event_stream.push_event.Goals as goal

pub returns-clause-filed : goal.returns-clause-filed
returns-clause-filed c = λ are. rw (c.in_ok-push.ensures.items, c.event.ensures.event) (filed c.args.events.now.items c.in-Some.operation c.in-Some.ensures.filed are)
