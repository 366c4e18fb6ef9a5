use Rattle.std.proofs.Common.{take, drop}
use Rattle.dr_meaning.specs.Calls.Handling.{GoesThrough, showings}
use Rattle.dr_lent.specs.Events.{events_of}
use Rattle.dr_plain.proofs.receiver.Receiver.show.Given as goal

abbrev pub invariant-loop-k : goal.invariant-loop-k
invariant-loop-k g l =
    GoesThrough g.H.InPlaceHandler.goes l.fn.handler (take l.k (showings (drop l.first (events_of l.self.knows.received)) l.first l.end)) l.handler
