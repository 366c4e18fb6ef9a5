use Rattle.std.proofs.Common.{◌++◌, refl, subst}
use Rattle.std.proofs.lemmas.Result.{err_from_is_err_and}
use Rattle.dr_journal.specs.Calls.Journals.{bytes_of, records_of}
use Rattle.dr_journal.specs.Calls.Parts.{device_of}
use Rattle.dr_ledger.specs.Coming.{waiting_of}
use Rattle.dr_ledger.specs.Starting.{AreBooked}
use Rattle.dr_ledger.proofs.Kept.{slices_say}
use Rattle.dr_ledger.proofs.Levels.{given, given_none}
use Rattle.dr_ledger.proofs.Moments.{batch_moments}
use Rattle.dr_ledger.proofs.Starts.{no_moments}
use Rattle.dr_ledger.proofs.start.give.Goals as goal

pub returns-then-is_empty-clause-gives : goal.returns-then-is_empty-clause-gives
returns-then-is_empty-clause-gives g c = λ past level.
    let d = g.D.Device in
    given_none d.seen d.may_leave c.args.journal.now c.args.rest.now c.args.accounts.now past (c.is_empty.ensures c.if-is_empty.true) level

pub returns-then-is_empty-clause-any_moment : goal.returns-then-is_empty-clause-any_moment
returns-then-is_empty-clause-any_moment g c = λ past level.
    let d = g.D.Device in
    no_moments d.seen d.may_leave d.moment d.left_since g.met.D.Device.only_now c.args.journal.now past (waiting_of c.args.rest.now) level.holds

pub returns-in_err-records-clause-any_moment : goal.returns-in_err-records-clause-any_moment
returns-in_err-records-clause-any_moment g c = λ past level.
    let d = g.D.Device in
    no_moments d.seen d.may_leave d.moment d.left_since g.met.D.Device.only_now c.args.journal.now past (waiting_of c.args.rest.now) level.holds

pub returns-in_err-append-clause-any_moment : goal.returns-in_err-append-clause-any_moment
returns-in_err-append-clause-any_moment g c = λ past level.
    let d = g.D.Device in
    let was = c.args.journal.now in
    let later = waiting_of c.args.rest.now in
    let says = slices_say c.in_ok-records.records.items c.deref-2.result.now c.deref.result.now later
    c.deref-2.ensures.value c.deref.ensures.value c.in_ok-records.ensures in
    batch_moments d.moment d.left_since (device_of was) (device_of c.append.new.self) past later (records_of d.seen was)
    (bytes_of c.deref-2.result.now) level.holds.records says c.append.ensures.any_moment

pub returns-in_err-book-clause-any_moment : goal.returns-in_err-book-clause-any_moment
returns-in_err-book-clause-any_moment g c = λ past level.
    let d = g.D.Device in
    let was = c.args.journal.now in
    let later = waiting_of c.args.rest.now in
    let says = slices_say c.in_ok-records.records.items c.deref-2.result.now c.deref.result.now later
    c.deref-2.ensures.value c.deref.ensures.value c.in_ok-records.ensures in
    batch_moments d.moment d.left_since (device_of was) (device_of c.append.new.self) past later (records_of d.seen was)
    (bytes_of c.deref-2.result.now) level.holds.records says c.append.ensures.any_moment

pub returns-clause-any_moment : goal.returns-clause-any_moment
returns-clause-any_moment g c = λ past level.
    let d = g.D.Device in
    let was = c.args.journal.now in
    let later = waiting_of c.args.rest.now in
    let says = slices_say c.in_ok-records.records.items c.deref-2.result.now c.deref.result.now later
    c.deref-2.ensures.value c.deref.ensures.value c.in_ok-records.ensures in
    batch_moments d.moment d.left_since (device_of was) (device_of c.append.new.self) past later (records_of d.seen was)
    (bytes_of c.deref-2.result.now) level.holds.records says c.append.ensures.any_moment

pub returns-clause-gives : goal.returns-clause-gives
returns-clause-gives g c = λ past level.
    let d = g.D.Device in
    let later = waiting_of c.args.rest.now in
    let says = slices_say c.in_ok-records.records.items c.deref-2.result.now c.deref.result.now later
    c.deref-2.ensures.value c.deref.ensures.value c.in_ok-records.ensures in
    given d.seen d.may_leave c.args.journal.now c.append.new.self c.args.rest.now _ c.args.accounts.now past (bytes_of c.deref-2.result.now) refl c.clear.ensures.items says level c.in_ok-append.ensures.at_rest
    c.in_ok-append.ensures.acknowledged c.book.new.self (subst (λ l. AreBooked c.book.new.self (past ++ l)) c.deref-3.ensures.value (c.in_ok-book.ensures.booked past level.booked))

pub returns-in_err-book-clause-of_store : goal.returns-in_err-book-clause-of_store
returns-in_err-book-clause-of_store g c =
    let p = err_from_is_err_and c.from_residual-in_err-book.result c.from_residual-in_err-book.ensures.1 in
    rw (p.1, p.2, c.in_err-book.ensures.memory) tt
