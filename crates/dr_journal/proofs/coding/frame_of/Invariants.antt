use Rattle.std.proofs.Common.{◌≡◌, ◌++◌, drop}
use Rattle.dr_journal.specs.Meaning.Format.{coded_records}
use Rattle.dr_journal.specs.Calls.Journals.{bytes_of}
use Rattle.dr_journal.proofs.coding.frame_of.Given as goal

abbrev pub invariant-loop-record : goal.invariant-loop-record
invariant-loop-record l = l.out.items ++ coded_records (bytes_of (drop l.record-index l.batch)) ≡ coded_records (bytes_of l.batch)
