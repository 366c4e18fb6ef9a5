use Rattle.dr_drive.proofs.Commanding.{written}
use Rattle.dr_drive.proofs.tool.command.Goals as goal

pub returns-in_ok-write_text-in-Ok-clause-bytes : goal.returns-in_ok-write_text-in-Ok-clause-bytes
returns-in_ok-write_text-in-Ok-clause-bytes g c = written c.args.states _ _ _ c.in-Ok.ensures.shown c.as_bytes.ensures.value c.in_ok-write_text-in-Ok.ensures.0
