-- What each call of a receiver tells, for who does not know which exchange it is of.
use Rattle.std.specs.Prelude.{List, length, Result}
use Rattle.dr_meaning.specs.declared.refusal.Refusal.{Refusal}
use Rattle.dr_meaning.specs.declared.command.Polled.{Polled}
use Rattle.dr_meaning.specs.Calls.Calling.{OutletCall, PollsInto, CompletesBelow}
use Rattle.dr_meaning.specs.Calls.Ends.{IsEndsAnswer, FillsFront, Takes, as_end}
use Rattle.dr_plain.specs.Calls.Ends.{ReceiverEnd, received_of}
use Rattle.dr_plain.specs.Calls.Receiving.{PollCall, CompleteCall}

module _ {T : Type 0} where
  -- a poll that copies: what it took stands at the front of the buffer, and the rest of it stays as it was
  abbrev pub PollIntoCall : ReceiverEnd T → List T → ReceiverEnd T → List T → Result Polled Refusal → Type 0
  PollIntoCall e out e' out' result =
      PollCall e (length out) e' result × FillsFront out out' (as_end result) × Takes out' (as_end result) (received_of e.knows) (received_of e'.knows)

  abbrev pub receiver_does : ReceiverEnd T → OutletCall T → ReceiverEnd T → Type 0
  receiver_does e (PollsInto before after answer) e' = IsEndsAnswer (PollIntoCall e before e' after) answer
  receiver_does e (CompletesBelow upto answer) e' = IsEndsAnswer (CompleteCall e upto e') answer
