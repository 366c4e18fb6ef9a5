-- What calls do to the history that lies under a lock.
use Rattle.std.specs.Prelude.{◌≡◌, ℕ, ◌+◌, ◌<◌, ◌≤◌, ◌⊎◌, Option, None, Some, Result, Ok, Err, List, [], ◌∷◌, ◌++◌, length, take}
use Rattle.dr_meaning.specs.declared.command.Command.{Command}
use Rattle.dr_meaning.specs.declared.command.Command.TheVariants.{Write}
use Rattle.dr_meaning.specs.declared.command.Reply.{Reply}
use Rattle.dr_meaning.specs.declared.command.Reply.TheVariants.{Written, Refused as RefusedReply}
use Rattle.dr_meaning.specs.declared.ends.Trouble.{Trouble}
use Rattle.dr_meaning.specs.declared.ends.Trouble.TheVariants.{Refused, Memory}
use Rattle.dr_meaning.specs.declared.ends.Wrote.{Wrote}
use Rattle.dr_core.specs.Calls.Shows.{IsStep, Shows}
use Rattle.dr_meaning.specs.Meaning.Machine.{State, step}
use Rattle.dr_lock.specs.Meaning.History.{RecordedView, entries_after}
use Rattle.dr_lock.specs.Calls.Lock.{IsAt}
use Rattle.dr_lock.specs.Inside.Weights.{most_calls}

-- what room a history had it still has
abbrev pub KeepsRoom : {E : Type 0} → RecordedView E → RecordedView E → Type 0
KeepsRoom old new = (old.entry_room ≤ new.entry_room) × (old.value_room ≤ new.value_room)

-- a call of a history: the machine's step, the entry where its reply is kept, and its events
pub record IsCall {E : Type 0} (old : RecordedView E) (command : Command E) (reply : Reply) (values : List E) (new : RecordedView E) : Type 0 where
  pub steps : IsStep old.history.core command reply values new.history.core
  pub entries : new.history.entries ≡ entries_after old.history.entries (record { command = command; reply = reply })
  pub gives : new.history.values ≡ old.history.values ++ values
  pub room : KeepsRoom old new

-- a call for which there is no memory changes nothing: its end has counted as many calls as it can, or no room is left for the entry or for the events
pub record IsLacking {E : Type 0} (counted : ℕ) (old : RecordedView E) (command : Command E) (new : RecordedView E) : Type 0 where
  pub same : new.history ≡ old.history
  pub room : KeepsRoom old new
  pub lacks : (m : State E) → Shows old.history.core m
      → (counted ≡ most_calls)
      ⊎ ((old.entry_room < length old.history.entries + 1)
      ⊎ (old.value_room < length old.history.values + length (step old.history.core.setup m command).values))

-- a producer's write to a history, by an end that counted so many calls
abbrev pub IsWrite : {E : Type 0} → ℕ → RecordedView E → ℕ → ℕ → E → RecordedView E → Result (Unit {0}) Trouble → Type 0
IsWrite counted old p s event new (Ok done) = IsCall old (Write p s event) Written [] new
IsWrite counted old p s event new (Err (Refused refusal)) = IsCall old (Write p s event) (RefusedReply refusal) [] new
IsWrite counted old p s event new (Err Memory) = IsLacking counted old (Write p s event) new

-- events are written to the sequences from lo on, each with an entry of its own
abbrev pub AreCalls : {E : Type 0} → RecordedView E → ℕ → ℕ → List E → RecordedView E → Type 0
AreCalls old p lo [] new = new ≡ old
AreCalls {E} old p lo (event ∷ events) new =
    (between : RecordedView E) × IsCall old (Write p lo event) Written [] between × AreCalls between p (lo + 1) events new

-- what keeps the next event from being written: nothing where all are
abbrev pub IsHinderedIn : {E : Type 0} → ℕ → RecordedView E → ℕ → ℕ → List E → ℕ → RecordedView E → Option Trouble → Type 0
IsHinderedIn counted old p lo events count new None = (new ≡ old) × (count ≡ length events)
IsHinderedIn {E} counted old p lo events count new (Some trouble) =
    (event : E) × IsAt events count event × IsWrite (counted + count) old p (lo + count) event new (Err trouble)

-- the first of some events, as many as are answered, are written to a history, and the next one is not
pub record AreWrites {E : Type 0} (counted : ℕ) (old : RecordedView E) (p lo : ℕ) (events : List E) (new : RecordedView E) (wrote : Wrote) : Type 0 where
  pub between : RecordedView E
  pub written : AreCalls old p lo (take wrote.count events) between
  pub hindered : IsHinderedIn counted between p lo events wrote.count new wrote.trouble
