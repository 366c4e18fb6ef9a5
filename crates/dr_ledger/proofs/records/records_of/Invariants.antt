use Rattle.std.proofs.Common.{take}
use Rattle.dr_journal.specs.Calls.Journals.{bytes_of}
use Rattle.dr_ledger.specs.Standing.{Say}
use Rattle.dr_ledger.proofs.records.records_of.Given as goal

abbrev pub invariant-loop-event : goal.invariant-loop-event
invariant-loop-event l = Say (bytes_of l.records.items) (take l.event-index l.events)
