use Rattle.std.proofs.Common.{Ok, subst}
use Rattle.dr_meaning.specs.declared.command.Polled.{Polled}
use Rattle.dr_plain_senders.specs.Calls.Receiving.{PollCall}
use Rattle.dr_plain_senders.proofs.receiver.Receiver.turn.Goals as goal

pub returns-in-Batch : goal.returns-in-Batch
returns-in-Batch g c = (
  c.poll.new.self,
  subst (λ (p : Polled). PollCall c.args.self.now c.args.room c.poll.new.self (Ok p)) c.in-Batch.is c.in_ok-answer.ensures.call,
  c.finish_below.ensures,
  c.show.ensures,
)
