use Rattle.std.proofs.Common.{◌++◌, subst, sym}
use Rattle.std.proofs.lemmas.Result.{err_from_is_err_and}
use Rattle.dr_files.specs.Counting.{faults_of, inner_of}
use Rattle.dr_journal.specs.Calls.Parts.{device_of}
use Rattle.dr_ledger.specs.Standing.{Copies, HasBooked, Holds, journal_of}
use Rattle.dr_ledger.proofs.Batches.{not_stored, replied}
use Rattle.dr_ledger.proofs.Counts.{of_batch, of_no_disk, store_counts, store_in_batch}
use Rattle.dr_ledger.proofs.ledger.Ledger.take.Goals as goal

pub returns-in_err-store-clause-takes : goal.returns-in_err-store-clause-takes
returns-in_err-store-clause-takes g c = λ past work.
    let d = g.D.Device in
    let e = c.in_err-store.field-0.0 in
    let p = err_from_is_err_and c.from_residual.result c.from_residual.ensures.1 in
    let left = c.store.ensures.any_moment past work.journal in
    rw (p.1, p.2) (not_stored d.seen d.may_leave (Unit {0}) (Unit {0}) e c.store.new.self (g.W.Write.contents (inner_of c.args.output.now)) past c.args.events.now (c.in_err-store.ensures.stores past work.journal work.replica)
    (λ file may. left.each file (g.met.D.Device.counts_now (device_of (journal_of c.store.new.self)) _ file left.later may)))

pub returns-in_err-store-clause-of_batch : goal.returns-in_err-store-clause-of_batch
returns-in_err-store-clause-of_batch g c =
    let p = err_from_is_err_and c.from_residual.result c.from_residual.ensures.1 in
    rw (p.1, p.2) (store_in_batch c.in_err-store.field-0.0 c.in_err-store.ensures.of_store)

pub returns-in_err-store-clause-counted : goal.returns-in_err-store-clause-counted
returns-in_err-store-clause-counted g c =
    let p = err_from_is_err_and c.from_residual.result c.from_residual.ensures.1 in
    rw (p.1, p.2) (store_counts c.in_err-store.field-0.0 (faults_of c.args.output.now) c.in_err-store.ensures.of_store)

pub returns-clause-takes : goal.returns-clause-takes
returns-clause-takes g c = λ past work.
    let d = g.D.Device in
    let con = g.W.Write.contents in
    let stored = c.in_ok-store.ensures.stores past work.journal work.replica in
    let booked = subst (λ b. HasBooked b past) (sym c.store.ensures.unbooked) work.booked in
    replied d.seen d.may_leave c.answer.result c.answer.new.self (record { before = con (inner_of c.args.output.now); after = con (inner_of c.answer.new.output) }) past c.args.events.now
    (subst (λ j. Holds d.seen d.may_leave j (past ++ c.args.events.now)) (sym c.answer.ensures.journal) stored.0)
    (subst (λ r. Copies d.seen d.may_leave r (past ++ c.args.events.now)) (sym c.answer.ensures.replica) stored.1)
    (c.answer.ensures.replies past booked)

pub returns-clause-of_batch : goal.returns-clause-of_batch
returns-clause-of_batch g c = of_batch c.answer.result c.answer.ensures.of_answer

pub returns-clause-failed : goal.returns-clause-failed
returns-clause-failed g c = λ told. absurd (of_no_disk c.answer.result c.answer.ensures.of_answer told)
