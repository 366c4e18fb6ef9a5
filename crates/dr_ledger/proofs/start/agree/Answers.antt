use Rattle.std.proofs.Common.{◌++◌, ◌∙◌, Ok, [], ap, sym}
use Rattle.std.proofs.lemmas.Result.{err_from_is_err_and}
use Rattle.dr_ledger.proofs.Agreeing.{none_taken, taken_on}
use Rattle.dr_ledger.proofs.Refusals.{copy_disagrees, disagrees}
use Rattle.dr_ledger.proofs.start.agree.Goals as goal

pub loop-init : goal.loop-init
loop-init c = record { only_read = λ is. is; copy_only_read = λ is. is; so_far = λ past taken. ([], none_taken c.args.journal.now c.args.replica.now c.args.accounts.now past taken) }

pub returns-in_err-has_more-clause-agrees : goal.returns-in_err-has_more-clause-agrees
returns-in_err-has_more-clause-agrees c = λ past taken.
    let so_far = c.loop.invariant.so_far past taken in
    let p = err_from_is_err_and c.from_residual.result c.from_residual.ensures.1 in
    rw (p.1, p.2) (disagrees c.in_err-has_more.field-0.0 c.has_more.new.self c.loop.replica (c.in_err-has_more.ensures.told (past ++ so_far.0) so_far.1.journal (sym so_far.1.booked.count ∙ sym c.count.ensures)))

pub returns-then-not-branch-clause-agrees : goal.returns-then-not-branch-clause-agrees
returns-then-not-branch-clause-agrees c = λ past taken.
    let so_far = c.loop.invariant.so_far past taken in
    (so_far.0, record { journal = c.in_ok-has_more.ensures.come (past ++ so_far.0) so_far.1.journal; replica = so_far.1.replica; booked = so_far.1.booked })

pub returns-in_err-has_more-2-clause-agrees : goal.returns-in_err-has_more-2-clause-agrees
returns-in_err-has_more-2-clause-agrees c = λ past taken.
    let so_far = c.loop.invariant.so_far past taken in
    let p = err_from_is_err_and c.from_residual-in_err-has_more-2.result c.from_residual-in_err-has_more-2.ensures.1 in
    rw (p.1, p.2) (copy_disagrees c.in_err-has_more-2.field-0.0 c.has_more.new.self c.has_more-in-loop.new.self (c.in_err-has_more-2.ensures.told (past ++ so_far.0) so_far.1.replica (sym so_far.1.booked.count ∙ sym c.count-in-loop.ensures)))

pub returns-then-not-branch-2-clause-agrees : goal.returns-then-not-branch-2-clause-agrees
returns-then-not-branch-2-clause-agrees c = λ past taken.
    let so_far = c.loop.invariant.so_far past taken in
    (so_far.0, record { journal = c.in_ok-has_more.ensures.come (past ++ so_far.0) so_far.1.journal; replica = c.in_ok-has_more-2.ensures.come (past ++ so_far.0) so_far.1.replica; booked = so_far.1.booked })

pub returns-in_err-match_waiting-clause-agrees : goal.returns-in_err-match_waiting-clause-agrees
returns-in_err-match_waiting-clause-agrees c = λ past taken.
    let so_far = c.loop.invariant.so_far past taken in
    let p = err_from_is_err_and c.from_residual-in_err-match_waiting.result c.from_residual-in_err-match_waiting.ensures.1 in
    rw (p.1, p.2)
    (c.in_err-match_waiting.ensures.agrees (past ++ so_far.0)
    (record { journal = c.in_ok-has_more.ensures.come (past ++ so_far.0) so_far.1.journal; replica = c.in_ok-has_more-2.ensures.come (past ++ so_far.0) so_far.1.replica; booked = so_far.1.booked }))

pub loop-preserved : goal.loop-preserved
loop-preserved c =
    let inv = c.loop.invariant in
    record {
      only_read = λ is. c.match_waiting.ensures.only_read (c.has_more.ensures.only_read (inv.only_read is));
      copy_only_read = λ is. c.match_waiting.ensures.copy_only_read (c.has_more-in-loop.ensures.only_read (inv.copy_only_read is));
      so_far = λ past taken.
          let so_far = inv.so_far past taken in
          let more = c.in_ok-match_waiting.ensures.agrees (past ++ so_far.0)
          (record { journal = c.in_ok-has_more.ensures.come (past ++ so_far.0) so_far.1.journal; replica = c.in_ok-has_more-2.ensures.come (past ++ so_far.0) so_far.1.replica; booked = so_far.1.booked }) in
          (so_far.0 ++ more.0, taken_on c.match_waiting.new.journal c.match_waiting.new.replica c.match_waiting.new.accounts past so_far.0 more.0 more.1);
    }
