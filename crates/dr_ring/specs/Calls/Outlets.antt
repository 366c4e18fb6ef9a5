-- What each call of a receiver tells, for who does not know which exchange it is of.
use Rattle.dr_seq.specs.declared.event.Event.{Event}
use Rattle.dr_meaning.specs.Calls.Calling.{OutletCall, PollsInto, CompletesBelow}
use Rattle.dr_meaning.specs.Calls.Ends.{IsEndsAnswer}
use Rattle.dr_ring.specs.Calls.Ends.{ReceiverEnd}
use Rattle.dr_ring.specs.Calls.Receiving.{PollCall, CompleteCall}

abbrev pub receiver_does : ReceiverEnd → OutletCall Event → ReceiverEnd → Type 0
receiver_does e (PollsInto before after answer) e' = IsEndsAnswer (PollCall e before e' after) answer
receiver_does e (CompletesBelow upto answer) e' = IsEndsAnswer (CompleteCall e upto e') answer
