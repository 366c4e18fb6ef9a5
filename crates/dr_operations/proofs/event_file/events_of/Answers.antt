use Rattle.std.proofs.Common.{◌+◌, ◌∙◌, refl, vec_len}
use Rattle.csv.specs.Records.{fields_of}
use Rattle.dr_operations.specs.EventFile.{events_in}
use Rattle.dr_records.specs.Rows.{rows_left}
use Rattle.dr_operations.proofs.EventFiles.{events_from, file-ends, file-goes, file-stops, preceded-nil, read_whole}
use Rattle.dr_operations.proofs.event_file.events_of.Goals as goal

pub loop-events-init : goal.loop-events-init
loop-events-init c = rw (c.new-events.ensures.items, c.new-events.ensures.len)
    (read_whole (rows_left c.args.rows.now) ∙ preceded-nil (events_from 1 (rows_left c.args.rows.now)))

pub returns-in_default-operation_of : goal.returns-in_default-operation_of
returns-in_default-operation_of c =
    let done = c.loop-events.events.items in
    let first = rw (c.in_ok-row.was, c.in-Some.is) at c.next.follows.holds-at-none in
    rw c.len.ensures (
      file-stops (events_in (rows_left c.args.rows.now)) done (vec_len c.loop-events.events + 1) (rows_left c.loop-events.rows)
          (fields_of c.in-Some.row.now) _ c.loop-events.invariant first c.in_default-operation_of.ensures.value,
      refl,
    )

pub loop-events-preserved : goal.loop-events-preserved
loop-events-preserved c =
    let done = c.loop-events.events.items in
    let first = rw (c.in_ok-row.was, c.in-Some.is) at c.next.follows.holds-at-none in
    rw (c.in_ok-push.ensures.items, c.in_ok-push.ensures.len, c.event.ensures.event)
    (file-goes (events_in (rows_left c.args.rows.now)) done (vec_len c.loop-events.events + 1) c.in-Some-operation_of.operation (rows_left c.loop-events.rows)
    (fields_of c.in-Some.row.now) _ c.loop-events.invariant first c.in-Some-operation_of.ensures.value)

pub returns : goal.returns
returns c =
    let done = c.loop-events.events.items in
    let none = rw (c.in_ok-row.was, c.in_default.is) at c.next.follows.holds-at-none in
    file-ends (events_in (rows_left c.args.rows.now)) done (vec_len c.loop-events.events + 1) (rows_left c.loop-events.rows) c.loop-events.invariant none
