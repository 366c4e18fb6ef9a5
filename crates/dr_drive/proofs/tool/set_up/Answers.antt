use Rattle.std.proofs.Common.{ap, length, arith}
use Rattle.csv.specs.Records.{fields_of}
use Rattle.dr_meaning.specs.Meaning.Machine.{opening}
use Rattle.dr_drive.specs.Meaning.Setup.{Empty}
use Rattle.dr_drive.specs.Meaning.DriveText.{Preparing, Running, text_from}
use Rattle.dr_records.specs.Rows.{rows_left}
use Rattle.dr_drive.specs.Calls.Shows.{setting_up_of}
use Rattle.dr_drive.proofs.SetUps.{setup-ends, setup-fails, setup-goes, setup-opens}
use Rattle.dr_drive.proofs.tool.set_up.Goals as goal

pub returns-in-Err : goal.returns-in-Err
returns-in-Err c =
    let at = c.loop-at in
    let first = rw (c.in_ok-row.was, c.in-Some.is) at c.next.follows.holds-at-none in
    λ states. rw c.at.ensures (setup-fails states c.in-Err.fault (rows_left c.args.rows.now) at.k (setting_up_of at.at) (rows_left at.rows) (fields_of c.in-Some.row.now) _ (at.invariant.says states) first c.in-Err.ensures)

pub loop-at-preserved : goal.loop-at-preserved
loop-at-preserved c =
    let at = c.loop-at in
    let first = rw (c.in_ok-row.was, c.in-Some.is) at c.next.follows.holds-at-none in
    let less = ap length first in
    let did = rw c.in-Ok-Goes.field-0-is at c.in-Ok-Goes.ensures in
    record {
      counted = omega (arith, at.invariant.counted, less);
      good = did.1;
      says = λ states. setup-goes states (text_from states 1 (Preparing Empty) (rows_left c.args.rows.now)) at.k (setting_up_of at.at) (setting_up_of c.in-Ok-Goes.next) (rows_left at.rows) (fields_of c.in-Some.row.now) _ (at.invariant.says states) first did.0;
    }

pub returns : goal.returns
returns c =
    let at = c.loop-at in
    let none = rw (c.in_ok-row.was, c.in_default.is) at c.next.follows.holds-at-none in
    λ states. rw c.missing.ensures (setup-ends states (text_from states 1 (Preparing Empty) (rows_left c.args.rows.now)) at.k (setting_up_of at.at) (rows_left at.rows) (at.invariant.says states) none)

pub returns-in-Ok-Opens : goal.returns-in-Ok-Opens
returns-in-Ok-Opens c =
    let at = c.loop-at in
    let first = rw (c.in_ok-row.was, c.in-Some.is) at c.next.follows.holds-at-none in
    let less = ap length first in
    let did = rw c.in-Ok-Opens.field-0-is at c.in-Ok-Opens.ensures in
    λ states. record {
      phase = Running did.names did.setup (opening did.setup);
      counted = omega (arith, at.invariant.counted, less);
      says = setup-opens states (text_from states 1 (Preparing Empty) (rows_left c.args.rows.now)) at.k (setting_up_of at.at) did.names did.setup (rows_left at.rows) (fields_of c.in-Some.row.now) _ (at.invariant.says states) first did.is;
      shows = did.shows;
    }
