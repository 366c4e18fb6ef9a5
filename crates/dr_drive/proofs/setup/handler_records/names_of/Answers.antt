use Rattle.std.proofs.Common.{◌∙◌, ap, arith}
use Rattle.csv.specs.Records.{fields_of}
use Rattle.dr_drive.specs.Calls.Shows.{legible}
use Rattle.dr_drive.proofs.Finding.{name_added}
use Rattle.dr_drive.proofs.setup.handler_records.names_of.Goals as goal

pub loop-place-preserved : goal.loop-place-preserved
loop-place-preserved c =
    let inv = c.loop-place.invariant in
    record {
      one = omega arith;
      so_far = name_added (fields_of c.args.row.now) c.loop-place.place c.loop-place.names.items c.push.new.self.items c.text_of.result inv.one (omega (arith, c.count_of-place-end.ensures, c.loop-place-test.true))
          c.in_ok-push.ensures.items (c.text_of.ensures ∙ ap legible c.field.ensures) inv.so_far;
    }
