use Rattle.dr_ledger.proofs.Refusals.{of_file}
use Rattle.dr_ledger.proofs.coming.Coming.open.Goals as goal

pub returns-in-Err-clause-told : goal.returns-in-Err-clause-told
returns-in-Err-clause-told c = of_file c.refuses.result c.args.role (c.in-Err.fault, c.refuses.ensures)
