use Rattle.std.proofs.Common.{ap, length, string_bytes, arith, refl}
use Rattle.dr_records.specs.Rows.{rows_left}
use Rattle.dr_show.proofs.Pages.{ends, fails, goes_on, starts}
use Rattle.dr_show.proofs.tool.put_objects.Goals as goal

pub loop-course-init : goal.loop-course-init
loop-course-init c = record { counted = refl; some = omega arith; come = starts c.args.window (rows_left c.args.rows.now) (string_bytes c.args.page.now) }

pub take_record-requires : goal.take_record-requires
take_record-requires c = (c.loop-course.invariant.come.phase, c.loop-course.invariant.come.shown)

pub loop-course-preserved : goal.loop-course-preserved
loop-course-preserved c =
    let inv = c.loop-course.invariant in
    let first = rw (c.in_ok-row.was, c.in-Some.is) at c.next.follows.holds-at-none in
    let less = ap length first in
    record {
      counted = omega (arith, inv.counted, less);
      some = omega arith;
      come = goes_on inv.come first c.in-Ok.ensures;
    }

pub returns-in-Err-Cause : goal.returns-in-Err-Cause
returns-in-Err-Cause c =
    let first = rw (c.in_ok-row.was, c.in-Some.is) at c.next.follows.holds-at-none in
    let told = rw c.in-Err-Cause.field-0-is at c.in-Err-Cause.ensures in
    let put = rw c.in-Err-Cause.field-0-is at c.in_ok-put_faulty-in-Err-Cause.ensures in
    rw c.in-Err-Cause.field-0-is (fails c.in-Err-Cause.cause c.loop-course.invariant.come first told put)

pub returns : goal.returns
returns c =
    let none = rw (c.in_ok-row.was, c.in_default.is) at c.next.follows.holds-at-none in
    ends (string_bytes c.put_end.new.page) c.put_end.result c.loop-course.invariant.come none c.put_end.ensures
