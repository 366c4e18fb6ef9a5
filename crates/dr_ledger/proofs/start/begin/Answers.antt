use Rattle.std.proofs.Common.{[], None, refl}
use Rattle.std.proofs.lemmas.Result.{err_from_is_err_and}
use Rattle.dr_journal.specs.Calls.Opened.{file_left, file_seen}
use Rattle.dr_ledger.specs.Coming.{records_read, role_of, waiting_of}
use Rattle.dr_ledger.proofs.Comings.{none_waits}
use Rattle.dr_ledger.proofs.Evens.{no_faults, starts_from}
use Rattle.dr_ledger.proofs.Refusals.{start_not_made, starts_not}
use Rattle.dr_ledger.proofs.Starts.{holds_of}
use Rattle.dr_ledger.proofs.start.begin.Goals as goal

pub returns-in_err-book_all-clause-told : goal.returns-in_err-book_all-clause-told
returns-in_err-book_all-clause-told c =
    let p = err_from_is_err_and c.from_residual.result c.from_residual.ensures.1 in
    rw (p.1, p.2)
    (starts_not c.in_err-book_all.field-0.0 c.book_all.new.coming (c.in_err-book_all.ensures.books [] (record { come = c.requires.come; booked = c.new-accounts.ensures })) (c.book_all.ensures.only_read c.requires.only_read))

pub finish-requires : goal.finish-requires
finish-requires c = c.book_all.ensures.only_read c.requires.only_read

pub returns-in_err-made-clause-told : goal.returns-in_err-made-clause-told
returns-in_err-made-clause-told c =
    let p = err_from_is_err_and c.from_residual-in_err-made.result c.from_residual-in_err-made.ensures.1 in
    rw (p.1, p.2) (start_not_made c.in_err-made.field-0.0 (role_of c.book_all.new.coming) c.finish.new.self c.finish.ensures.role c.in_err-made.ensures.told)

pub returns-clause-starts : goal.returns-clause-starts
returns-clause-starts c =
    let read = c.book_all.new.coming in
    let all = c.in_ok-book_all.ensures.books [] (record { come = c.requires.come; booked = c.new-accounts.ensures }) in
    let says = none_waits (records_read read) all.0 (waiting_of read) all.2 all.1.come in
    let holds = holds_of file_seen file_left c.in_ok-made.made (records_read read) all.0 c.in_ok-made.ensures.at_rest c.in_ok-made.ensures.same says in
    starts_from _ _ c.in_ok-made.made read c.finish.new.self c.book_all.new.accounts all.0 c.started.ensures.journal all.1 all.2 c.in_ok-made.ensures.any_moment c.finish.ensures.read
    (c.started.ensures.work all.0 holds tt all.1.booked) (c.started.ensures.counted all.0 all.1.booked)

pub returns-clause-at_rest : goal.returns-clause-at_rest
returns-clause-at_rest c =
    let read = c.book_all.new.coming in
    let all = c.in_ok-book_all.ensures.books [] (record { come = c.requires.come; booked = c.new-accounts.ensures }) in
    let says = none_waits (records_read read) all.0 (waiting_of read) all.2 all.1.come in
    c.started.ensures.at_rest all.0 (holds_of file_seen file_left c.in_ok-made.made (records_read read) all.0 c.in_ok-made.ensures.at_rest c.in_ok-made.ensures.same says) tt

pub returns-clause-reliable : goal.returns-clause-reliable
returns-clause-reliable c = no_faults c.started.result.0 c.in_ok-made.made None c.started.ensures.journal c.started.ensures.replica c.in_ok-made.ensures.reliable refl
