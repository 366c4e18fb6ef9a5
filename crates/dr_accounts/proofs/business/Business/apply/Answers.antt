use Rattle.std.proofs.lemmas.Result.{on_ok_weaker}
use Rattle.dr_accounts.specs.Handlers.{kept}
use Rattle.dr_accounts.proofs.Moving.{deposited, withdrawn}
use Rattle.dr_accounts.proofs.business.Business.apply.Goals as goal

pub returns-in-Deposit-clause-moved : goal.returns-in-Deposit-clause-moved
returns-in-Deposit-clause-moved c = rw c.in-Deposit.is
    (on_ok_weaker c.add.result (λ put. deposited (kept c.args.self.now) (kept c.add.new.self) c.in-Deposit.account c.in-Deposit.amount put) c.add.ensures.put)

pub returns-in-Withdraw-clause-moved : goal.returns-in-Withdraw-clause-moved
returns-in-Withdraw-clause-moved c = rw c.in-Withdraw.is
    (on_ok_weaker c.withdraw.result (λ put. withdrawn (kept c.args.self.now) (kept c.withdraw.new.self) c.in-Withdraw.account c.in-Withdraw.amount put) c.withdraw.ensures.put)
