-- A journal's parts: its device, where the next batch goes, and how many bytes the file has.
use Rattle.std.specs.Prelude.{ℕ}
use Rattle.dr_journal.specs.declared.journal.Journal.{Journal}

abbrev pub device_of : {D : Type 0} → Journal D → D
device_of journal = journal.device

abbrev pub end_of : {D : Type 0} → Journal D → ℕ
end_of journal = journal.end

abbrev pub length_of : {D : Type 0} → Journal D → ℕ
length_of journal = journal.len
