use Rattle.dr_journal.specs.Meaning.Format.{recovered}
use Rattle.dr_ledger.specs.Coming.{read_of}
use Rattle.dr_ledger.proofs.Comings.{added_to, none_added, stays_so}
use Rattle.dr_ledger.proofs.coming.read_on.Goals as goal

pub returns-in_default-clause-added : goal.returns-in_default-clause-added
returns-in_default-clause-added c = λ before none. none_added (recovered (read_of c.args.opening.now before)) c.args.records.now.items none

pub returns-in-Ok-clause-added : goal.returns-in-Ok-clause-added
returns-in-Ok-clause-added c = λ before none. added_to c.args.opening.now c.in-Some.opening c.next_records.new.self before c.in-Some.is c.args.records.now.items c.next_records.new.records.items none c.in-Ok.ensures.added

pub returns-in-Err-clause-stays : goal.returns-in-Err-clause-stays
returns-in-Err-clause-stays c = λ before. stays_so c.args.opening.now c.in-Some.opening c.next_records.new.self before c.in-Some.is c.in-Err.ensures.stays

pub returns-in-Err-clause-told : goal.returns-in-Err-clause-told
returns-in-Err-clause-told c = (c.in-Err.fault, c.refuses.ensures)
