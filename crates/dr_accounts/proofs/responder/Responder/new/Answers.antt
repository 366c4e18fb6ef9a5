use Rattle.std.proofs.Common.{sym, ◌∙◌}
use Rattle.dr_accounts.proofs.Answering.{begun}
use Rattle.dr_accounts.proofs.responder.Responder.new.Goals as goal

pub returns-clause-empty : goal.returns-clause-empty
returns-clause-empty c = λ past has. begun past _ c.new.ensures.bytes (λ fine. has (sym c.is_failed.ensures ∙ fine))
