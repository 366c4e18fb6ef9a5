use Rattle.std.proofs.Common.{◌≡◌, ◌+◌, length}
use Rattle.dr_files.specs.Counting.{faults_of, inner_of}
use Rattle.dr_records.specs.Rows.{rows_left}
use Rattle.dr_drive.proofs.Commanding.{HasCome}
use Rattle.dr_drive.proofs.tool.commands.Given as goal

abbrev pub invariant-loop-line : goal.invariant-loop-line
invariant-loop-line g l = record {
  counted : l.k + length (rows_left l.rows) ≡ l.fn.k + length (rows_left l.fn.rows);
  none : faults_of l.writer ≡ faults_of l.initial.writer;
  come : HasCome l.states l.fn.exchange l.fn.k (rows_left l.fn.rows) l.exchange l.k (rows_left l.rows) (g.W.Write.contents (inner_of l.initial.writer)) (g.W.Write.contents (inner_of l.writer));
}

abbrev pub decreases-loop-line : goal.decreases-loop-line
decreases-loop-line g l = length (rows_left l.rows)
