use Rattle.std.proofs.Common.{◌≡◌, ◌+◌, Bool, length}
use Rattle.dr_drive.specs.Meaning.Setup.{Empty}
use Rattle.dr_drive.specs.Meaning.DriveText.{Preparing, text_from}
use Rattle.dr_records.specs.Rows.{rows_left}
use Rattle.dr_drive.specs.Calls.Shows.{IsPreparation, setting_up_of}
use Rattle.dr_drive.proofs.tool.set_up.Given as goal

abbrev pub invariant-loop-at : goal.invariant-loop-at
invariant-loop-at l = record {
  counted : l.k + length (rows_left l.rows) ≡ 1 + length (rows_left l.fn.rows);
  good : IsPreparation l.at;
  says : (states : Bool) → text_from states 1 (Preparing Empty) (rows_left l.fn.rows) ≡ text_from states l.k (Preparing (setting_up_of l.at)) (rows_left l.rows);
}

abbrev pub decreases-loop-at : goal.decreases-loop-at
decreases-loop-at l = length (rows_left l.rows)
