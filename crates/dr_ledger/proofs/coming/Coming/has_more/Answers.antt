use Rattle.std.proofs.Common.{◌++◌, ◌∙◌, ap, refl, subst, sym}
use Rattle.std.proofs.lemmas.Result.{err_from_is_err_and}
use Rattle.dr_journal.specs.Calls.Journals.{bytes_of}
use Rattle.dr_journal.specs.Meaning.Format.{recovered}
use Rattle.dr_ledger.specs.Coming.{records_read, waiting_of}
use Rattle.dr_ledger.specs.Starting.{TellsRecords}
use Rattle.dr_ledger.proofs.Comings.{comes_more, none_waits, says_all, says_first}
use Rattle.dr_ledger.proofs.Refusals.{of_file, refused}
use Rattle.dr_ledger.proofs.coming.Coming.has_more.Goals as goal

pub returns-then-not-is_empty-clause-first : goal.returns-then-not-is_empty-clause-first
returns-then-not-is_empty-clause-first c = λ past come. says_all (records_read c.args.self.now) _ (past ++ waiting_of c.args.self.now) come refl

pub returns-in_err-more-clause-first : goal.returns-in_err-more-clause-first
returns-in_err-more-clause-first c = λ past come.
    says_all (records_read c.args.self.now) _ (past ++ waiting_of c.args.self.now) come (ap recovered (c.in_err-more.ensures.stays c.args.self.now.before.value))

pub returns-in_err-more-clause-of_file : goal.returns-in_err-more-clause-of_file
returns-in_err-more-clause-of_file c =
    let p = err_from_is_err_and c.from_residual.result c.from_residual.ensures.1 in
    rw (p.1, p.2) (of_file c.in_err-more.field-0.0 c.args.self.now.role c.in_err-more.ensures.told)

pub returns-in_err-more-clause-told : goal.returns-in_err-more-clause-told
returns-in_err-more-clause-told c = λ past come many.
    let p = err_from_is_err_and c.from_residual.result c.from_residual.ensures.1 in
    rw (p.1, p.2) (refused c.in_err-more.field-0.0 c.args.self.now.role _ c.in_err-more.ensures.told)

pub returns-in_err-self-clause-first : goal.returns-in_err-self-clause-first
returns-in_err-self-clause-first c = λ past come.
    says_first (records_read c.args.self.now) (bytes_of c.read_on.new.records.items) _ (past ++ waiting_of c.args.self.now) come (c.in_ok-more.ensures.added c.args.self.now.before.value c.new-records.ensures.items)

pub returns-in_err-self-clause-of_file : goal.returns-in_err-self-clause-of_file
returns-in_err-self-clause-of_file c =
    let p = err_from_is_err_and c.from_residual-in_err-self.result c.from_residual-in_err-self.ensures.1 in
    rw (p.1, p.2) c.in_err-self.ensures.of_records

pub returns-in_err-self-clause-told : goal.returns-in_err-self-clause-told
returns-in_err-self-clause-told c = λ past come many.
    let was = c.args.self.now in
    let p = err_from_is_err_and c.from_residual-in_err-self.result c.from_residual-in_err-self.ensures.1 in
    let all = c.in_ok-more.ensures.added was.before.value c.new-records.ensures.items ∙ ap (λ l. records_read was ++ bytes_of l) (sym c.deref.ensures.value) in
    let says = none_waits (records_read was) past (waiting_of was) (c.is_empty.ensures c.if-not-is_empty.false) come in
    rw (p.1, p.2) (subst (λ r. TellsRecords c.in_err-self.field-0.0 r) (sym all) (c.in_err-self.ensures.bad (records_read was) past says many))

pub returns-then-is_empty-clause-come : goal.returns-then-is_empty-clause-come
returns-then-is_empty-clause-come c = λ past come.
    let was = c.args.self.now in
    let all = c.in_ok-more.ensures.added was.before.value c.new-records.ensures.items ∙ ap (λ l. records_read was ++ bytes_of l) (sym c.deref.ensures.value) in
    comes_more (records_read was) (bytes_of c.deref.result.now) _ past (waiting_of was) _ come (c.is_empty.ensures c.if-not-is_empty.false) c.in_ok-self.ensures.said all

pub returns-then-is_empty-clause-first : goal.returns-then-is_empty-clause-first
returns-then-is_empty-clause-first c = λ past come.
    says_first (records_read c.args.self.now) (bytes_of c.read_on.new.records.items) _ (past ++ waiting_of c.args.self.now) come (c.in_ok-more.ensures.added c.args.self.now.before.value c.new-records.ensures.items)

pub returns-clause-come : goal.returns-clause-come
returns-clause-come c = λ past come.
    let was = c.args.self.now in
    let all = c.in_ok-more.ensures.added was.before.value c.new-records.ensures.items ∙ ap (λ l. records_read was ++ bytes_of l) (sym c.deref.ensures.value) in
    comes_more (records_read was) (bytes_of c.deref.result.now) _ past (waiting_of was) _ come (c.is_empty.ensures c.if-not-is_empty.false) c.in_ok-self.ensures.said all

pub returns-clause-first : goal.returns-clause-first
returns-clause-first c = λ past come.
    says_first (records_read c.args.self.now) (bytes_of c.read_on.new.records.items) _ (past ++ waiting_of c.args.self.now) come (c.in_ok-more.ensures.added c.args.self.now.before.value c.new-records.ensures.items)

pub returns-then-is_empty-clause-none : goal.returns-then-is_empty-clause-none
returns-then-is_empty-clause-none c = λ told. c.is_empty-2.ensures c.if-is_empty.true
