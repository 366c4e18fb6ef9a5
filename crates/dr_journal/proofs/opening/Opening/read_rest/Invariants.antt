use Rattle.dr_journal.specs.Calls.Opened.{read_so_far}
use Rattle.dr_journal.specs.Calls.Reading.{AddsNext}
use Rattle.dr_journal.proofs.opening.Opening.read_rest.Given as goal

abbrev pub invariant-loop : goal.invariant-loop
invariant-loop l = AddsNext (read_so_far l.initial.self) (read_so_far l.self) l.initial.records.items l.records.items
