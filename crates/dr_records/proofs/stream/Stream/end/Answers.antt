use Rattle.std.proofs.Common.{sym}
use Rattle.csv.specs.Records.{fields_of}
use Rattle.dr_records.proofs.Resumed.{none_left, one_left}
use Rattle.dr_records.proofs.stream.Stream.end.Goals as goal

pub returns-then-is_open : goal.returns-then-is_open
returns-then-is_open c =
    let old = c.args.self.now in
    one_left old.place (fields_of old.row) (fields_of c.end_record.new.last) old.field.items old.fields old.mark (sym c.if-is_open.ensures) c.in_ok-end_record.ensures.last

pub returns : goal.returns
returns c =
    let old = c.args.self.now in
    none_left old.place (fields_of old.row) old.field.items (sym c.if-is_open.ensures)
