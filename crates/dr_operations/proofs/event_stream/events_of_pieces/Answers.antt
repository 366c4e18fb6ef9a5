use Rattle.std.proofs.Common.{arith}
use Rattle.std.proofs.lemmas.Result.{err_from_is_err_and}
use Rattle.dr_operations.proofs.Pieces.{pieced_end, pieced_end_stop, pieced_on, pieced_stop}
use Rattle.dr_operations.proofs.event_stream.events_of_pieces.Goals as goal

pub loop-piece-preserved : goal.loop-piece-preserved
loop-piece-preserved c = record {
  pieced = pieced_on c.new-stream.result c.loop-piece.stream c.feed.new.self c.args.pieces.now c.loop-piece.piece-index c.piece-item.result c.as_slice.result.now c.loop-piece.events.items c.feed.new.events.items
      (omega arith) c.piece-item.is c.loop-piece.invariant.pieced c.as_slice.ensures.value c.in_ok-feed.ensures.feeds;
  reads = c.loop-piece.invariant.reads;
}

pub returns-in_err-feed : goal.returns-in_err-feed
returns-in_err-feed c =
    let p = err_from_is_err_and c.from_residual.result c.from_residual.ensures.1 in
    rw (p.1, p.2) (pieced_stop c.in_err-feed.field-0.0 c.new-stream.result c.loop-piece.stream c.args.pieces.now c.loop-piece.piece-index c.piece-item.result c.as_slice.result.now c.loop-piece.events.items c.feed.new.events.items
    (omega arith) c.piece-item.is c.loop-piece.invariant.reads c.loop-piece.invariant.pieced c.as_slice.ensures.value c.in_err-feed.ensures.feeds)

pub returns-in_err-finish : goal.returns-in_err-finish
returns-in_err-finish c =
    let p = err_from_is_err_and c.from_residual-in_err-finish.result c.from_residual-in_err-finish.ensures.1 in
    rw (p.1, p.2) (pieced_end_stop c.in_err-finish.field-0.0 c.new-stream.result c.loop-piece.stream c.args.pieces.now c.loop-piece.piece-index c.loop-piece.events.items c.finish.new.events.items
    (omega arith) c.loop-piece.invariant.reads c.loop-piece.invariant.pieced c.in_err-finish.ensures.finishes)

pub returns : goal.returns
returns c =
    pieced_end c.new-stream.result c.loop-piece.stream c.args.pieces.now c.loop-piece.piece-index c.loop-piece.events.items c.finish.new.events.items
    (omega arith) c.loop-piece.invariant.reads c.loop-piece.invariant.pieced c.in_ok-finish.ensures.finishes
