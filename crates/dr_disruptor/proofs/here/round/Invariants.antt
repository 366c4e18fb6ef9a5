use Rattle.dr_plain.specs.Calls.Ends.{receiver_place}
use Rattle.dr_plain.specs.Calls.InPlace.{SawSome, does_in_place}
use Rattle.dr_disruptor.specs.Here.{AreShown}
use Rattle.dr_disruptor.proofs.Turns.{TurnsBelow}
use Rattle.dr_disruptor.proofs.here.round.Given as goal
use Rattle.dr_disruptor.proofs.Ready.{received_by}

abbrev pub invariant-loop-h : goal.invariant-loop-h
invariant-loop-h g l =
    TurnsBelow g.H.InPlaceHandler.goes l.batch l.h l.fn.receivers l.fn.handlers l.receivers l.handlers
    × AreShown receiver_place received_by SawSome does_in_place g.H.InPlaceHandler.goes l.batch l.fn.receivers l.fn.handlers l.receivers l.handlers
