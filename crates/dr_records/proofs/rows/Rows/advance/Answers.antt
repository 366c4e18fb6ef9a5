use Rattle.std.proofs.Common.{◌∙◌, sym}
use Rattle.dr_records.proofs.RowsLeft.{ready, takes_row}
use Rattle.dr_records.proofs.rows.Rows.advance.Goals as goal

pub returns-in-Ok : goal.returns-in-Ok
returns-in-Ok c =
    let old = c.args.self.now in
    let did = c.read_byte_record in
    takes_row old.reader did.new.self did.new.row c.in-Ok.found old.reads (λ bad. let is = sym c.in-Ok.is ∙ did.ensures.failed bad in cc)
    (λ good. c.in-Ok.ensures.reads (old.reads good).trim (ready old.reader (old.reads good)))
