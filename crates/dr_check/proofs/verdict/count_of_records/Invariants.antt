use Rattle.std.proofs.Common.{◌≡◌, ◌+◌, ◌<◌, ◌^◌, length}
use Rattle.dr_records.specs.Records.{records_of}
use Rattle.dr_records.specs.Rows.{rows_left}
use Rattle.dr_check.proofs.verdict.count_of_records.Given as goal

abbrev pub invariant-loop-rows : goal.invariant-loop-rows
invariant-loop-rows l = record {
  counted : l.count + length (rows_left l.rows) ≡ length (records_of l.text);
  fits : length (records_of l.text) + 1 < 2 ^ 64;
}

abbrev pub decreases-loop-rows : goal.decreases-loop-rows
decreases-loop-rows l = length (rows_left l.rows)
