use Rattle.std.proofs.Common.{◌≡◌, take}
use Rattle.dr_journal.specs.Calls.Readers.{HasRead, count_of}
use Rattle.dr_journal_tests.proofs.checks.opened_by_bytes.Given as goal

abbrev pub invariant-loop-byte : goal.invariant-loop-byte
invariant-loop-byte l = record {
  read : HasRead l.recovery (take l.byte-index l.bytes);
  count : count_of l.recovery ≡ l.byte-index;
}
