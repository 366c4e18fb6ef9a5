use Rattle.std.proofs.Common.{rules}
use Rattle.csv.specs.Records.{fields_of}
use Rattle.dr_records.proofs.FieldAt.{field_none, field_some}
use Rattle.dr_records.proofs.fields.field.Goals as goal

pub returns-in-Some : goal.returns-in-Some
returns-in-Some c = field_some (fields_of c.args.row.now) c.args.place c.in-Some.field.now c.in-Some.ensures.value

pub returns-in-None : goal.returns-in-None
returns-in-None c = rw (field_none (fields_of c.args.row.now) c.args.place c.in-None.ensures.value) (search rules)
