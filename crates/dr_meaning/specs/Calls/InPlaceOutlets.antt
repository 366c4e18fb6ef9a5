-- What a handler's end that shows events where they lie answers, and how that changes what it took.
use Rattle.std.specs.Prelude.{◌≡◌, ◌↔◌, ℕ, ◌+◌, ◌-◌, ◌^◌, ◌<◌, min, Bool, IsTrue, List, length}
use Rattle.dr_meaning.specs.declared.command.Polled.{Polled}
use Rattle.dr_meaning.specs.declared.command.Polled.TheVariants.{Batch}
use Rattle.dr_meaning.specs.Calls.Ends.{Received, with_taken}

-- a batch has the next events, as many as were offered and there is room for; its last one is marked if and only if no more was offered, and the end saw what was
pub record TakesNext {E : Type 0} (room offered : ℕ) (Saw : ℕ → Type 0) (first count : ℕ) (end : Bool) (old new : Received E) : Type 0 where
  pub events : List E
  pub many : length events ≡ count
  pub begins : first ≡ length old.events
  pub some : 0 < count
  pub whole : count ≡ min (offered - first) room
  pub marked : IsTrue end ↔ (first + count ≡ offered)
  pub saw : Saw offered
  pub fits : first + count < 2 ^ 64
  pub taken : new ≡ with_taken old events

-- a poll with room for so many, where so many events in all were offered; an answer that is no batch takes nothing
abbrev pub TakesUpTo : {E : Type 0} → ℕ → ℕ → (ℕ → Type 0) → Polled → Received E → Received E → Type 0
TakesUpTo room offered Saw (Batch first count end) old new = TakesNext room offered Saw first count end old new
TakesUpTo room offered Saw other old new = new ≡ old

-- what was seen before was seen
abbrev pub SawMore : (ℕ → Type 0) → (ℕ → Type 0) → Type 0
SawMore Old New = (n : ℕ) → Old n → New n
