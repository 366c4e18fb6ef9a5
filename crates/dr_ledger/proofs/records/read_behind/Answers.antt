use Rattle.std.proofs.Common.{◌+◌, arith, length}
use Rattle.dr_journal.specs.Calls.Journals.{bytes_of}
use Rattle.dr_ledger.proofs.Comings.{bad_behind}
use Rattle.dr_ledger.proofs.records.read_behind.Goals as goal

pub returns-in-Err-BadRecord-clause-bad : goal.returns-in-Err-BadRecord-clause-bad
returns-in-Err-BadRecord-clause-bad c = λ before past says many.
    let bad = c.in-Err-BadRecord in
    let once = c.saturating_add.ensures in
    let twice = c.saturating_add-in-Err-BadRecord.ensures in
    (length past + bad.n, omega (arith, many, once, twice), bad_behind before (bytes_of c.args.records.now) past bad.n says (bad.ensures.bad bad.n bad.field-0-is))
