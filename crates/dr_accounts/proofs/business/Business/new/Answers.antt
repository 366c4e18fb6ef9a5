use Rattle.std.proofs.Common.{refl}
use Rattle.dr_accounts.specs.Accounts.{balances_after, refusals_after}
use Rattle.dr_accounts.proofs.business.Business.new.Goals as goal

pub returns-clause-empty : goal.returns-clause-empty
unfolding balances_after refusals_after
returns-clause-empty c = λ _. record {
  balances = λ a. rw c.new.ensures.empty refl;
  refusals = λ a. rw c.new.ensures.empty refl;
  named = λ a. rw c.new.ensures.empty refl;
  count = refl;
}
