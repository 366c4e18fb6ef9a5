use Rattle.std.proofs.Common.{◌-◌, arith, take}
use Rattle.std.proofs.lemmas.List.{length-take}
use Rattle.dr_journal.specs.Meaning.Format.{behind_header, whole_length}
use Rattle.dr_journal.proofs.Codes.{within}
use Rattle.dr_journal.proofs.recovery.Recovery.unsure_from.Goals as goal

pub overflow_add-result : goal.overflow_add-result
overflow_add-result c =
    let body = behind_header c.requires.read.0 in
    let read = c.requires.read.1 in
    let n = whole_length body - 1 in
    omega (arith, read.scanned.began, read.scanned.counted, within (take n body), length-take n body, c.requires.small)
