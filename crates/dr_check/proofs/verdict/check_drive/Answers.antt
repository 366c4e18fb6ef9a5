use Rattle.std.proofs.Common.{arith}
use Rattle.dr_files.specs.Counting.{faults_of}
use Rattle.dr_check.proofs.verdict.check_drive.Goals as goal

pub drive_verdict-requires : goal.drive_verdict-requires
drive_verdict-requires g c = omega (arith, c.as_slice.type_inv.1)

pub returns-clause-counted : goal.returns-clause-counted
returns-clause-counted g c = rw c.in_ok-text.ensures.none (c.drive_verdict.ensures.unread (faults_of c.args.reader.now))
