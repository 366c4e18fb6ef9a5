use Rattle.std.proofs.Common.{◌≡◌, ◌++◌, drop}
use Rattle.dr_journal.specs.Meaning.Format.{coded}
use Rattle.dr_journal.proofs.coding.push_coded.Given as goal

abbrev pub invariant-loop-byte : goal.invariant-loop-byte
invariant-loop-byte l = l.out.items ++ coded (drop l.byte-index l.bytes) ≡ l.initial.out.items ++ coded l.bytes
