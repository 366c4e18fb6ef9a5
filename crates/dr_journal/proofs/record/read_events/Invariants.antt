use Rattle.std.proofs.Common.{take, map}
use Rattle.dr_journal.specs.Calls.Journals.{bytes_of}
use Rattle.dr_journal.specs.Calls.Records.{AreValues}
use Rattle.dr_journal.proofs.record.read_events.Given as goal

abbrev pub invariant-loop-n : goal.invariant-loop-n
invariant-loop-n g l = AreValues g.E.AsRecord.value_in (bytes_of (take l.n l.records)) (map g.E.AsRecord.value l.events.items)
