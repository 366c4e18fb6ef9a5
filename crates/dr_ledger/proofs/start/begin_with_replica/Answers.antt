use Rattle.std.proofs.Common.{[], ◌++◌, Some}
use Rattle.std.proofs.lemmas.Result.{err_from_is_err_and}
use Rattle.dr_ledger.proofs.Evens.{flipped, no_faults, starts_as_journal, starts_as_replica}
use Rattle.dr_ledger.proofs.Refusals.{start_disagrees, start_not_even, start_not_even_copy}
use Rattle.dr_ledger.proofs.start.begin_with_replica.Goals as goal

pub returns-in_err-agree-clause-told : goal.returns-in_err-agree-clause-told
returns-in_err-agree-clause-told c =
    let p = err_from_is_err_and c.from_residual.result c.from_residual.ensures.1 in
    let told = c.in_err-agree.ensures.agrees [] (record { journal = c.requires.journal.come; replica = c.requires.replica.come; booked = c.new-accounts.ensures }) in
    rw (p.1, p.2)
    (start_disagrees c.in_err-agree.field-0.0 c.agree.new.journal c.agree.new.replica told (c.agree.ensures.only_read c.requires.journal.only_read) (c.agree.ensures.copy_only_read c.requires.replica.only_read))

pub returns-in_err-made-in-Journal-clause-told : goal.returns-in_err-made-in-Journal-clause-told
returns-in_err-made-in-Journal-clause-told c =
    let p = err_from_is_err_and c.from_residual-in_err-made-in-Journal.result c.from_residual-in_err-made-in-Journal.ensures.1 in
    let both = c.in_ok-agree.ensures.agrees [] (record { journal = c.requires.journal.come; replica = c.requires.replica.come; booked = c.new-accounts.ensures }) in
    rw (p.1, p.2) (start_not_even c.in_err-made-in-Journal.field-0.0 c.even.new.short c.even.new.long (c.in_err-made-in-Journal.ensures.evens both.0 both.1))

pub returns-in_ok-made-in-Journal-clause-starts : goal.returns-in_ok-made-in-Journal-clause-starts
returns-in_ok-made-in-Journal-clause-starts c =
    let made = c.in_ok-made-in-Journal in
    let both = c.in_ok-agree.ensures.agrees [] (record { journal = c.requires.journal.come; replica = c.requires.replica.come; booked = c.new-accounts.ensures }) in
    let even = made.ensures.evens both.0 both.1 in
    let all = both.0 ++ even.more in
    starts_as_replica _ _ made.made made.copy c.even.new.short c.even.new.long c.even.new.accounts both.0 c.started.ensures.journal c.started.ensures.replica even
    (c.started.ensures.work all even.holds even.other_holds even.booked) (c.started.ensures.counted all even.booked)

pub returns-in_ok-made-in-Journal-clause-at_rest : goal.returns-in_ok-made-in-Journal-clause-at_rest
returns-in_ok-made-in-Journal-clause-at_rest c =
    let both = c.in_ok-agree.ensures.agrees [] (record { journal = c.requires.journal.come; replica = c.requires.replica.come; booked = c.new-accounts.ensures }) in
    let even = c.in_ok-made-in-Journal.ensures.evens both.0 both.1 in
    c.started.ensures.at_rest (both.0 ++ even.more) even.holds even.other_holds

pub returns-in_ok-made-in-Journal-clause-reliable : goal.returns-in_ok-made-in-Journal-clause-reliable
returns-in_ok-made-in-Journal-clause-reliable c =
    let made = c.in_ok-made-in-Journal in
    no_faults c.started.result.0 made.made (Some made.copy) c.started.ensures.journal c.started.ensures.replica made.ensures.reliable.0 made.ensures.reliable.1

pub returns-in_err-copy-in-Replica-clause-told : goal.returns-in_err-copy-in-Replica-clause-told
returns-in_err-copy-in-Replica-clause-told c =
    let p = err_from_is_err_and c.from_residual-in_err-copy-in-Replica.result c.from_residual-in_err-copy-in-Replica.ensures.1 in
    let both = c.in_ok-agree.ensures.agrees [] (record { journal = c.requires.journal.come; replica = c.requires.replica.come; booked = c.new-accounts.ensures }) in
    rw (p.1, p.2)
    (start_not_even_copy c.in_err-copy-in-Replica.field-0.0 c.even-in-Replica.new.long c.even-in-Replica.new.short (c.in_err-copy-in-Replica.ensures.evens both.0 (flipped c.agree.new.journal c.agree.new.replica c.agree.new.accounts both.0 both.1)))

pub returns-in_ok-copy-in-Replica-clause-starts : goal.returns-in_ok-copy-in-Replica-clause-starts
returns-in_ok-copy-in-Replica-clause-starts c =
    let made = c.in_ok-copy-in-Replica in
    let both = c.in_ok-agree.ensures.agrees [] (record { journal = c.requires.journal.come; replica = c.requires.replica.come; booked = c.new-accounts.ensures }) in
    let even = made.ensures.evens both.0 (flipped c.agree.new.journal c.agree.new.replica c.agree.new.accounts both.0 both.1) in
    let all = both.0 ++ even.more in
    starts_as_journal _ _ made.made made.copy c.even-in-Replica.new.long c.even-in-Replica.new.short c.even-in-Replica.new.accounts both.0 c.started-in-Replica.ensures.journal c.started-in-Replica.ensures.replica even
    (c.started-in-Replica.ensures.work all even.other_holds even.holds even.booked) (c.started-in-Replica.ensures.counted all even.booked)

pub returns-in_ok-copy-in-Replica-clause-at_rest : goal.returns-in_ok-copy-in-Replica-clause-at_rest
returns-in_ok-copy-in-Replica-clause-at_rest c =
    let both = c.in_ok-agree.ensures.agrees [] (record { journal = c.requires.journal.come; replica = c.requires.replica.come; booked = c.new-accounts.ensures }) in
    let even = c.in_ok-copy-in-Replica.ensures.evens both.0 (flipped c.agree.new.journal c.agree.new.replica c.agree.new.accounts both.0 both.1) in
    c.started-in-Replica.ensures.at_rest (both.0 ++ even.more) even.other_holds even.holds

pub returns-in_ok-copy-in-Replica-clause-reliable : goal.returns-in_ok-copy-in-Replica-clause-reliable
returns-in_ok-copy-in-Replica-clause-reliable c =
    let made = c.in_ok-copy-in-Replica in
    no_faults c.started-in-Replica.result.0 made.made (Some made.copy) c.started-in-Replica.ensures.journal c.started-in-Replica.ensures.replica made.ensures.reliable.1 made.ensures.reliable.0
