use Rattle.dr_drive.proofs.Legible.{no_text, text}
use Rattle.dr_drive.proofs.setup.handler_records.text_of.Goals as goal

pub returns-in-Ok : goal.returns-in-Ok
returns-in-Ok c = text c.args.field.now c.in-Ok.text.now c.in-Ok.ensures.cases.0 c.in-Ok.ensures.cases.1

pub returns-in-Err : goal.returns-in-Err
returns-in-Err c = no_text c.args.field.now c.in-Err.ensures.cases.0
