use Rattle.dr_operations.specs.Written.{AreOfFile}
use Rattle.dr_operations.proofs.Feeding.{Fed}
use Rattle.dr_operations.proofs.event_stream.EventStream.feed.Given as goal

abbrev pub invariant-loop-byte : goal.invariant-loop-byte
invariant-loop-byte l = record {
  fed : Fed l.initial.self l.self l.piece l.byte-index l.initial.events.items l.events.items;
  filed : AreOfFile l.initial.events.items → AreOfFile l.events.items;
}
