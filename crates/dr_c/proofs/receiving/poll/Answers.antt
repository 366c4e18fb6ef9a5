use Rattle.std.proofs.Common.{refl, sym, subst}
use Rattle.dr_c.specs.declared.end.End.{End}
use Rattle.dr_c.specs.declared.end.End.TheVariants.{ReceiverOfSeveral}
use Rattle.dr_c.specs.Calls.{PollsBy}
use Rattle.dr_c.proofs.Troubles.{polled, in_trouble}
use Rattle.dr_c.proofs.receiving.poll.Goals as goal

pub returns-in-Ok-poll_into : goal.returns-in-Ok-poll_into
returns-in-Ok-poll_into c =
    let call = c.poll_into-in-ReceiverOfSeveral in let it = c.in-Ok-poll_into in let offer = c.offer_of-in-Ok-poll_into in
    let r' = call.new.self in let out' = call.new.out in
    subst (λ (e : End). PollsBy c.args.out.now out' c.args.offer.now offer.result 0 e (ReceiverOfSeveral r')) (sym c.in-ReceiverOfSeveral.is)
    (polled c.args.out.now out' c.args.offer.now offer.result c.in-ReceiverOfSeveral.receiver r' it.polled it.ensures.own offer.ensures)

pub returns-in-Err-poll_into : goal.returns-in-Err-poll_into
returns-in-Err-poll_into c =
    let call = c.poll_into-in-ReceiverOfSeveral in let it = c.in-Err-poll_into in let number = c.number-in-Err-poll_into in
    let r' = call.new.self in let out' = call.new.out in let offer = c.args.offer.now in
    subst (λ (e : End). PollsBy c.args.out.now out' offer offer number.result e (ReceiverOfSeveral r')) (sym c.in-ReceiverOfSeveral.is)
    (in_trouble c.args.out.now out' offer offer c.in-ReceiverOfSeveral.receiver r' it.trouble number.result it.ensures.own number.ensures refl)
