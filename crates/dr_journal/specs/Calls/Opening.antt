-- How a file is opened as a journal, which may crash at any moment too.
use Rattle.std.specs.Prelude.{◌≡◌, ◌+◌, ◌≤◌, List, ℕ, length}
use Rattle.dr_journal.specs.Meaning.Format.{header, IsJournal, IsNew, recovered}

-- what a crash leaves of a file that is being opened: it stands for the same records, a journal stays one, and a new file has at most
-- a header and one byte
pub record StandsForTheSame (file c : List ℕ) : Type 0 where
  pub records : recovered c ≡ recovered file
  pub journal : IsJournal file → IsJournal c
  pub fresh : IsNew file → length c ≤ length header + 1
