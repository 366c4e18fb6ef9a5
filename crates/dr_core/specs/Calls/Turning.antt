-- A turn of a handler's processor.
use Rattle.std.specs.Prelude.{◌≡◌, ℕ, ◌+◌, Result, Ok, List, []}
use Rattle.dr_meaning.specs.declared.command.Command.TheVariants.{Poll, Complete}
use Rattle.dr_meaning.specs.declared.command.Reply.TheVariants.{Batch, Completed}
use Rattle.dr_meaning.specs.declared.command.Polled.{Polled}
use Rattle.dr_meaning.specs.declared.command.Polled.TheVariants as answer
use Rattle.dr_meaning.specs.declared.refusal.Refusal.{Refusal}
use Rattle.dr_core.specs.Calls.CoreView.{CoreView}
use Rattle.dr_core.specs.Calls.Shows.{IsStep}
use Rattle.dr_meaning.specs.Calls.Replies.{poll_reply}
use Rattle.dr_meaning.specs.Calls.Handling.{Relation, GoesThrough, showings}

-- a batch is shown to the handler and then completed; any other answer reaches no handler
abbrev pub TakesTurn : {E A : Type 0} → Relation E A → CoreView E → ℕ → ℕ → Result Polled Refusal → List E → CoreView E → A → A → Type 0
TakesTurn {E} goes old h room (Ok (answer.Batch first count end)) values new before after =
    (polled : CoreView E) × IsStep old (Poll h room) (Batch first count end) values polled × IsStep polled (Complete h (first + count)) Completed [] new × GoesThrough goes before (showings values first end) after
TakesTurn goes old h room other values new before after = IsStep old (Poll h room) (poll_reply other) [] new × (after ≡ before)
