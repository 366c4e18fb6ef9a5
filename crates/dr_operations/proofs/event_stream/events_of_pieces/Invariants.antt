use Rattle.std.proofs.Common.{◌≡◌, ℕ, List}
use Rattle.dr_operations.specs.Arriving.{read_of, to_come}
use Rattle.dr_operations.specs.EventFile.{events_of}
use Rattle.dr_operations.proofs.Pieces.{Pieced}
use Rattle.dr_operations.proofs.event_stream.events_of_pieces.Given as goal

abbrev pub invariant-loop-piece : goal.invariant-loop-piece
invariant-loop-piece l = record {
  pieced : Pieced l.initial.stream l.stream l.pieces l.piece-index l.events.items;
  reads : (text : List ℕ) → read_of (to_come l.initial.stream text) ≡ events_of text;
}
