use Rattle.std.proofs.Common.{Some, string_bytes}
use Rattle.std.proofs.lemmas.Result.{err_from_is_err_and}
use Rattle.csv.specs.Records.{fields_of}
use Rattle.dr_drive.specs.Meaning.DriveText.{Running}
use Rattle.dr_show.specs.Meaning.PageText.{has}
use Rattle.dr_show.proofs.Courses.{command_put, not_taken, sized}
use Rattle.dr_show.proofs.course.take_command.Goals as goal

pub put_command_if-requires : goal.put_command_if-requires
put_command_if-requires c =
    let ran = c.in_ok-obey.ensures c.requires.0 c.requires.1 in
    sized c.obey.new.running ran.names ran.setup ran.state ran.keeps

pub returns-in_err-obey : goal.returns-in_err-obey
returns-in_err-obey c = λ phase shown.
    let p = err_from_is_err_and c.from_residual.result c.from_residual.ensures.1 in
    rw (p.1, p.2) (not_taken c.in_err-obey.field-0.0 c.args.window c.args.k (fields_of c.args.row.now) _ (string_bytes c.args.page.now) (c.in_err-obey.ensures phase shown))

pub returns : goal.returns
returns c = λ phase shown.
    let ran = c.in_ok-obey.ensures phase shown in
    record {
      did = record { phase = Running ran.names ran.setup ran.state; line = Some (string_bytes c.obey.new.line) };
      is = ran.is;
      shown = ran.keeps;
      put = command_put c.has.result (has c.args.window c.args.k) c.args.k (fields_of c.args.row.now) c.as_str.result.now (string_bytes c.obey.new.line) c.obey.new.running
          ran.names ran.setup ran.state (string_bytes c.args.page.now) (string_bytes c.put_command_if.new.page) ran.keeps c.has.ensures c.as_str.ensures.value c.in_ok-put_command_if.ensures;
    }
