-- The names of what a journal may be at fault with, as programs print them.
use Rattle.std.specs.Prelude.{ℕ, List, codes}
use Rattle.dr_journal.specs.declared.fault.JournalFault.{JournalFault}
use Rattle.dr_journal.specs.declared.fault.JournalFault.TheVariants.{NoMemory, Failed, Full}
use Rattle.dr_journal.specs.declared.fault.OpenFault.{OpenFault}
use Rattle.dr_journal.specs.declared.fault.OpenFault.TheVariants.{NotAJournal, InUse, Journal}

abbrev pub name_of : JournalFault → List ℕ
name_of NoMemory = codes "no-memory"
name_of Failed = codes "failed"
name_of Full = codes "full"

abbrev pub open_name_of : OpenFault → List ℕ
open_name_of NotAJournal = codes "not-a-journal"
open_name_of InUse = codes "in-use"
open_name_of (Journal fault) = name_of fault
