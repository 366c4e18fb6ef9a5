use Rattle.std.proofs.Common.{◌<◌, length, arith}
use Rattle.dr_ledger.proofs.Kept.{one_more}
use Rattle.dr_ledger.proofs.records.records_of.Goals as goal

pub loop-event-preserved : goal.loop-event-preserved
loop-event-preserved c =
    let within : c.loop-event.event-index < length c.args.events.now = omega (arith, c.loop-event-test.true) in
    one_more c.loop-event.records.items c.push.new.self.items c.in_ok-record_of.field-0 c.args.events.now c.loop-event.event-index _ within c.loop-event.invariant c.in_ok-push.ensures.items c.in_ok-record_of.ensures
