use Rattle.std.proofs.Common.{◌≡◌, ◌+◌, ◌<◌, length, string_bytes}
use Rattle.dr_records.specs.Rows.{rows_left}
use Rattle.dr_show.proofs.Pages.{Comes}
use Rattle.dr_show.proofs.tool.put_objects.Given as goal

abbrev pub invariant-loop-course : goal.invariant-loop-course
invariant-loop-course l = record {
  counted : l.k + length (rows_left l.rows) ≡ 1 + length (rows_left l.fn.rows);
  some : 0 < l.k;
  come : Comes l.window (rows_left l.fn.rows) l.course l.k (rows_left l.rows) (string_bytes l.initial.page) (string_bytes l.page);
}

abbrev pub decreases-loop-course : goal.decreases-loop-course
decreases-loop-course l = length (rows_left l.rows)
