use Rattle.std.proofs.Common.{refl}
use Rattle.dr_accounts.specs.Report.{journal_from}
use Rattle.dr_accounts.proofs.journal.Journal.new.Goals as goal

pub returns-clause-empty : goal.returns-clause-empty
unfolding journal_from
returns-clause-empty c = λ _. record { lines = c.new.ensures.bytes; count = refl }
