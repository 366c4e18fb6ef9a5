use Rattle.std.proofs.Common.{arith}
use Rattle.std.proofs.lemmas.List.{length-drop}
use Rattle.dr_journal.specs.Meaning.Format.{behind_header}
use Rattle.dr_journal.proofs.Codes.{within}
use Rattle.dr_journal.proofs.Feeding.{begun_of}
use Rattle.dr_journal.proofs.recovery.Recovery.finish.Goals as goal

pub overflow_add-end : goal.overflow_add-end
overflow_add-end g c =
    let file = g.D.Device.seen c.args.device in
    omega (arith, c.requires.read.scanned.ended, within (behind_header file), length-drop 8 file, c.requires.small)

pub repair-requires-clause-begins : goal.repair-requires-clause-begins
repair-requires-clause-begins g c = begun_of (g.D.Device.seen c.args.device) c.requires.read.begins
