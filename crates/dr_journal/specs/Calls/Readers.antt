-- What is known of a journal's file of which only a beginning was read.
use Rattle.std.specs.Prelude.{◌≡◌, ℕ, ◌+◌, List, length, take}
use Rattle.dr_journal.specs.Meaning.Format.{header, behind_header}
use Rattle.dr_journal.specs.Inside.Reading.{HasScanned}
use Rattle.dr_journal.specs.declared.recovery.Recovery.{Recovery}

-- these bytes of a file were read, and as far as they go they begin with the header
pub record HasRead (recovery : Recovery) (file : List ℕ) : Type 0 where
  pub begins : take 8 file ≡ take (length file) header
  pub matched : recovery.matched ≡ length (take 8 file)
  pub scanned : HasScanned recovery.scan (behind_header file)

-- how many they are
abbrev pub count_of : Recovery → ℕ
count_of recovery = recovery.matched + recovery.scan.len
