-- What a handler holds, as its contracts see it.
use Rattle.dr_journal.specs.Calls.Handling.{Writer}
use Rattle.dr_journal.specs.Calls.Journals.{bytes_of}
use Rattle.dr_journal.specs.declared.device.Device.{Ghosts}
use Rattle.dr_journal.specs.declared.handler.Journaling.{Journaling}

abbrev pub writer_of : {D : Type 0} {g : Ghosts D} → Journaling D g → Writer D
writer_of j = record { journal = j.journal; waiting = bytes_of j.waiting.items; fault = j.fault }
