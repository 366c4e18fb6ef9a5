use Rattle.std.proofs.Common.{take}
use Rattle.dr_meaning.specs.Calls.Handling.{GoesThrough, showings}
use Rattle.dr_meaning.proofs.handler.show_in_place.Given as goal

abbrev pub invariant-loop-k : goal.invariant-loop-k
invariant-loop-k g l = GoesThrough g.H.InPlaceHandler.goes l.fn.handler (take l.k (showings l.events l.first l.end)) l.handler
