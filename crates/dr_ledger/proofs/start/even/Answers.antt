use Rattle.std.proofs.Common.{◌∙◌}
use Rattle.std.proofs.lemmas.Result.{err_from_is_err_and}
use Rattle.dr_journal.specs.declared.file.FileDevice.{FileDevice}
use Rattle.dr_ledger.specs.Coming.{records_read, role_of, waiting_of}
use Rattle.dr_ledger.proofs.Comings.{none_waits}
use Rattle.dr_ledger.proofs.Evens.{made_even, made_level}
use Rattle.dr_ledger.proofs.Refusals.{evens_not, not_made}
use Rattle.dr_ledger.proofs.start.even.Goals as goal

pub returns-in_err-made-clause-evens : goal.returns-in_err-made-clause-evens
returns-in_err-made-clause-evens c = λ past taken.
    let p = err_from_is_err_and c.from_residual.result c.from_residual.ensures.1 in
    rw (p.1, p.2) (not_made c.in_err-made.field-0.0 (role_of c.args.short.now) c.args.long.now c.in_err-made.ensures.told)

pub returns-in_err-level-clause-evens : goal.returns-in_err-level-clause-evens
returns-in_err-level-clause-evens c = λ past taken.
    let p = err_from_is_err_and c.from_residual-in_err-level.result c.from_residual-in_err-level.ensures.1 in
    let level = made_level c.in_ok-made.made c.args.short.now c.args.long.now c.args.accounts.now past taken c.requires.none c.in_ok-made.ensures.at_rest c.in_ok-made.ensures.same in
    rw (p.1, p.2) (evens_not c.in_err-level.field-0.0 c.level.new.rest (c.in_err-level.ensures.levels past level).leaves (c.level.ensures.only_read c.requires.long))

pub returns-in_err-other-clause-evens : goal.returns-in_err-other-clause-evens
returns-in_err-other-clause-evens c = λ past taken.
    let p = err_from_is_err_and c.from_residual-in_err-other.result c.from_residual-in_err-other.ensures.1 in
    rw (p.1, p.2) (not_made c.in_err-other.field-0.0 (role_of c.level.new.rest) _ c.in_err-other.ensures.told)

pub returns-clause-evens : goal.returns-clause-evens
returns-clause-evens c = λ past taken.
    let short = c.args.short.now in
    let level = made_level c.in_ok-made.made short c.args.long.now c.args.accounts.now past taken c.requires.none c.in_ok-made.ensures.at_rest c.in_ok-made.ensures.same in
    let says = none_waits (records_read short) past (waiting_of short) c.requires.none taken.journal in
    made_even _ c.in_ok-made.made c.level.new.journal c.in_ok-other.other short c.finish.new.self c.level.new.rest c.finish-2.new.self c.level.new.accounts past says c.in_ok-made.ensures.any_moment c.finish.ensures.read
    (c.in_ok-level.ensures.levels past level) c.in_ok-other.ensures.at_rest c.in_ok-other.ensures.same c.in_ok-other.ensures.any_moment c.finish-2.ensures.read

pub returns-clause-reliable : goal.returns-clause-reliable
returns-clause-reliable c = (c.in_ok-level.ensures.reliable ∙ c.in_ok-made.ensures.reliable, c.in_ok-other.ensures.reliable)
