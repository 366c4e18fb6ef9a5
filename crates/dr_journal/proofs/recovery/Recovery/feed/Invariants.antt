use Rattle.std.proofs.Common.{◌≡◌, ◌+◌, take}
use Rattle.dr_journal.specs.Calls.Readers.{count_of}
use Rattle.dr_journal.specs.Calls.Reading.{Reads}
use Rattle.dr_journal.proofs.recovery.Recovery.feed.Given as goal

abbrev pub invariant-loop-byte : goal.invariant-loop-byte
invariant-loop-byte l = record {
  reads : Reads l.initial.self l.self (take l.byte-index l.piece) l.initial.records.items l.records.items;
  count : count_of l.self ≡ count_of l.initial.self + l.byte-index;
}
