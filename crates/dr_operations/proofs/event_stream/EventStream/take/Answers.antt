use Rattle.std.proofs.Common.{refl}
use Rattle.std.proofs.lemmas.Result.{err_from_is_err_and}
use Rattle.dr_records.specs.Stream.{record_in}
use Rattle.dr_operations.proofs.Feeding.{no_memory, pushed, unended}
use Rattle.dr_operations.proofs.event_stream.EventStream.take.Goals as goal

pub returns-in_err-found-clause-feeds : goal.returns-in_err-found-clause-feeds
returns-in_err-found-clause-feeds c =
    let p = err_from_is_err_and c.from_residual.result c.from_residual.ensures.1 in
    no_memory c.from_residual.result p.0 c.args.self.now _ _ c.args.events.now.items p.1 p.2

pub returns-then-found-clause-feeds : goal.returns-then-found-clause-feeds
returns-then-found-clause-feeds c =
    let old = c.args.self.now in
    let takes = rw c.if-found.true at c.in_ok-found.ensures in
    pushed c.push.result old c.push.new.self c.take.new.self c.args.byte c.args.events.now.items c.push.new.events.items (record_in c.take.new.self)
    c.push.ensures.counted c.push.ensures.records takes c.push.ensures.pushes

pub returns-clause-feeds : goal.returns-clause-feeds
returns-clause-feeds c =
    let old = c.args.self.now in
    let takes = rw c.if-found.false at c.in_ok-found.ensures in
    unended old (record { records = c.take.new.self; count = old.count }) c.args.byte c.args.events.now.items refl takes
