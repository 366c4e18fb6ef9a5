use Rattle.std.proofs.Common.{sym}
use Rattle.csv.specs.Records.{fields_of}
use Rattle.dr_records.proofs.Resumed.{ends, goes, mark_ends}
use Rattle.dr_records.proofs.stream.Stream.take.Goals as goal

pub returns-then-ends_mark : goal.returns-then-ends_mark
returns-then-ends_mark c =
    let old = c.args.self.now in
    mark_ends old.place c.args.byte (fields_of old.row) old.field.items c.clear.new.self.items (sym c.if-ends_mark.ensures) old.fields c.clear.ensures.items

pub returns-then-is_end : goal.returns-then-is_end
returns-then-is_end c =
    let old = c.args.self.now in
    let step = c.step-place.ensures in
    let did = c.in_ok-end_record.ensures in
    ends old.place c.step-place.result.0 c.step-place.result.1 c.args.byte (fields_of old.row) (fields_of c.end_record.new.row) (fields_of c.end_record.new.last) old.field.items c.end_record.new.field.items old.fields old.mark
    (sym c.if-ends_mark.ensures) step.state step.action step.first (step.ended (sym c.if-is_end.ensures)) (sym c.if-is_end.ensures) did.last did.row did.field

pub returns : goal.returns
returns c =
    let old = c.args.self.now in
    let step = c.step-place.ensures in
    let did = c.in_ok-go_on.ensures in
    goes old.place c.step-place.result.0 c.step-place.result.1 c.args.byte (fields_of old.row) (fields_of c.go_on.new.row) old.field.items c.go_on.new.field.items old.fields old.mark
    (sym c.if-ends_mark.ensures) step.state step.action step.first step.mark (sym c.if-is_end.ensures) did.fields did.field
