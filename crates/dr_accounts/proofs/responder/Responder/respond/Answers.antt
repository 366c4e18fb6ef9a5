use Rattle.std.proofs.Common.{ap}
use Rattle.std.proofs.lemmas.Result.{on_ok_weaker}
use Rattle.dr_accounts.proofs.Answering.{answered_by}
use Rattle.dr_accounts.proofs.responder.Responder.respond.Goals as goal

pub returns-clause-answered : goal.returns-clause-answered
returns-clause-answered c =
    on_ok_weaker c.push_answer.result
    (λ wrote. answered_by c.args.event c.args.self.now _ c.of-movement.result.movement c.count-s.result c.refuses-refused.result c.balance-balance.result c.account_of.result c.in_ok-book.ensures.booked
    (ap (λ o. o.movement) c.of-movement.ensures) c.count-s.ensures c.refuses-refused.ensures c.account_of.ensures c.balance-balance.ensures wrote) c.push_answer.ensures
