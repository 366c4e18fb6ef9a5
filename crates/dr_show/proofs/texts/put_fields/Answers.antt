use Rattle.std.proofs.Common.{length, string_bytes, arith}
use Rattle.csv.specs.Records.{fields_of}
use Rattle.dr_drive.proofs.Pushing.{all_pushed, pushed}
use Rattle.dr_show.specs.Meaning.Texts.{field_text}
use Rattle.dr_show.proofs.texts.put_fields.Goals as goal

pub loop-place-preserved : goal.loop-place-preserved
loop-place-preserved c =
    pushed (field_text (fields_of c.args.row.now)) 0 c.loop-place.place c.loop-place.place (string_bytes c.args.page.now) (string_bytes c.loop-place.page) (string_bytes c.put_field.new.page) (omega arith) c.loop-place.invariant c.in_ok-put_field.ensures

pub returns : goal.returns
returns c =
    all_pushed (field_text (fields_of c.args.row.now)) 0 c.loop-place.place (length (fields_of c.args.row.now)) (string_bytes c.args.page.now) (string_bytes c.loop-place.page) c.loop-place.invariant (omega (arith, c.count_of-place-end.ensures))
