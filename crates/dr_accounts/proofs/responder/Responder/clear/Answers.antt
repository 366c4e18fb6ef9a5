use Rattle.std.proofs.Common.{refl}
use Rattle.dr_accounts.proofs.Answering.{cleared}
use Rattle.dr_accounts.proofs.responder.Responder.clear.Goals as goal

pub returns-clause-cleared : goal.returns-clause-cleared
returns-clause-cleared c = λ past events has. cleared past events c.args.self.now _ refl refl c.clear.ensures.bytes has
