use Rattle.dr_accounts.proofs.Answering.{answers_join}
use Rattle.dr_accounts.proofs.responder.Responder.answers.Goals as goal

pub returns-clause-all : goal.returns-clause-all
returns-clause-all c = λ first past before events s end has through fine.
    answers_join past before events first c.args.self.now s end c.as_str.result.now c.as_str.ensures.value has through fine
