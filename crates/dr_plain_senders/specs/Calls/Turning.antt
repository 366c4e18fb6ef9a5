-- A turn of a handler at its receiver.
use Rattle.std.specs.Prelude.{◌≡◌, ℕ, ◌+◌, drop, Result, Ok}
use Rattle.dr_meaning.specs.declared.refusal.Refusal.{Refusal}
use Rattle.dr_meaning.specs.declared.command.Polled.{Polled}
use Rattle.dr_meaning.specs.declared.command.Polled.TheVariants.{Batch}
use Rattle.dr_meaning.specs.Calls.Handling.{Relation, GoesThrough, showings}
use Rattle.dr_lent.specs.Events.{events_of}
use Rattle.dr_plain_senders.specs.Calls.Ends.{ReceiverEnd}
use Rattle.dr_plain_senders.specs.Calls.Receiving.{PollCall, CompleteCall}

-- a batch is shown to the handler, and then all that the receiver took is completed; any other answer reaches no handler
abbrev pub TurnCall : {T A : Type 0} → Relation T A → ReceiverEnd T → ℕ → ReceiverEnd T → Result Polled Refusal → A → A → Type 0
TurnCall {T} goes e room e' (Ok (Batch first count end)) before after =
    (polled : ReceiverEnd T) × PollCall e room polled (Ok (Batch first count end)) × CompleteCall polled (first + count) e' (Ok tt)
    × GoesThrough goes before (showings (drop first (events_of polled.knows.received)) first end) after
TurnCall goes e room e' other before after = PollCall e room e' other × (after ≡ before)
