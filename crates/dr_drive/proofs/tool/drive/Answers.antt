use Rattle.dr_drive.proofs.tool.drive.Goals as goal

pub returns-clause-bytes : goal.returns-clause-bytes
returns-clause-bytes g c = c.drive_telling.ensures.bytes
