use Rattle.std.proofs.Common.{arith}
use Rattle.std.proofs.lemmas.Result.{err_from_is_err_and}
use Rattle.dr_operations.proofs.Feeding.{fed_all, fed_on, fed_stop}
use Rattle.dr_operations.proofs.event_stream.EventStream.feed.Goals as goal

pub loop-byte-preserved : goal.loop-byte-preserved
loop-byte-preserved c = record {
  fed = fed_on c.args.self.now c.loop-byte.self c.take.new.self c.args.piece.now c.loop-byte.byte-index c.args.events.now.items c.loop-byte.events.items c.take.new.events.items
      (omega arith) c.loop-byte.invariant.fed c.in_ok-take.ensures.feeds;
  filed = λ old. c.take.ensures.filed (c.loop-byte.invariant.filed old);
}

pub returns-in_err-take-clause-feeds : goal.returns-in_err-take-clause-feeds
returns-in_err-take-clause-feeds c =
    let p = err_from_is_err_and c.from_residual.result c.from_residual.ensures.1 in
    rw (p.1, p.2) (fed_stop c.in_err-take.field-0.0 c.args.self.now c.loop-byte.self c.args.piece.now c.loop-byte.byte-index c.args.events.now.items c.loop-byte.events.items c.take.new.events.items
    (omega arith) c.loop-byte.invariant.fed c.in_err-take.ensures.feeds)

pub returns-clause-feeds : goal.returns-clause-feeds
returns-clause-feeds c = fed_all c.args.self.now c.loop-byte.self c.args.piece.now c.loop-byte.byte-index c.args.events.now.items c.loop-byte.events.items (omega arith) c.loop-byte.invariant.fed
