use Rattle.std.proofs.Common.{◌+◌}
use Rattle.std.proofs.lemmas.Result.{err_from_is_err_and}
use Rattle.dr_records.specs.Stream.{record_in, records_to_come}
use Rattle.dr_operations.proofs.Arrivals.{ends}
use Rattle.dr_operations.proofs.Feeding.{no_memory_last, pushed_last}
use Rattle.dr_operations.proofs.event_stream.EventStream.finish.Goals as goal

pub returns-in_err-found-clause-finishes : goal.returns-in_err-found-clause-finishes
returns-in_err-found-clause-finishes c =
    let p = err_from_is_err_and c.from_residual.result c.from_residual.ensures.1 in
    no_memory_last c.from_residual.result p.0 c.args.self.now c.args.events.now.items p.1 p.2

pub returns-then-found-clause-finishes : goal.returns-then-found-clause-finishes
returns-then-found-clause-finishes c =
    let old = c.args.self.now in
    let left = rw c.if-found.true at c.in_ok-found.ensures in
    pushed_last c.push.result old c.args.events.now.items c.push.new.events.items (record_in c.end.new.self) left c.push.ensures.pushes

pub returns-clause-finishes : goal.returns-clause-finishes
returns-clause-finishes c =
    let old = c.args.self.now in
    let left = rw c.if-found.false at c.in_ok-found.ensures in
    ends c.args.events.now.items (old.count + 1) (records_to_come old.records _) left
