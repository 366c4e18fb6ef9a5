use Rattle.std.proofs.Common.{◌≡◌, ◌+◌, length, vec_len}
use Rattle.dr_operations.specs.EventFile.{events_in}
use Rattle.dr_records.specs.Rows.{rows_left}
use Rattle.dr_operations.proofs.EventFiles.{events_from, preceded}
use Rattle.dr_operations.proofs.event_file.events_of.Given as goal

abbrev pub invariant-loop-events : goal.invariant-loop-events
invariant-loop-events l = events_in (rows_left l.fn.rows) ≡ preceded l.events.items (events_from (vec_len l.events + 1) (rows_left l.rows))

abbrev pub decreases-loop-events : goal.decreases-loop-events
decreases-loop-events l = length (rows_left l.rows)
