-- What a handler that lists its events keeps of them.
use Rattle.std.specs.Prelude.{◌≡◌, ℕ, ◌<◌, ◌≤◌, Bool, true, List, [], ◌∷◌, ◌++◌, length, slice_index_or, vec_capacity}
use Rattle.dr_seq.specs.declared.event.Event.{Event}
use Rattle.dr_meaning.specs.Calls.Handling.{Relation}
use Rattle.dr_lock.specs.Meaning.Audit.{FirstLacks}
use Rattle.dr_disruptor_lock.specs.declared.comparing.HistoryFault.{HistoryFault}
use Rattle.dr_disruptor_lock.specs.declared.comparing.HistoryFault.TheVariants.{Audit, Shown}
use Rattle.dr_disruptor_lock.specs.declared.watching.Watching.{Watching}

-- an event is shown to the handler inside, and all are listed as long as each comes next; where there is room the next one is. Of the last one it is kept whether it ended what was available
pub record Watches {A : Type 0} (goes : Relation Event A) (old : Watching A) (event : Event) (s : ℕ) (end : Bool) (new : Watching A) : Type 0 where
  pub shown : goes old.handler event s end new.handler
  pub listed : new.is_whole ≡ true → (old.is_whole ≡ true) × (s ≡ length old.list.items) × (new.list.items ≡ old.list.items ++ event ∷ [])
  pub next : s ≡ length old.list.items → length old.list.items < vec_capacity old.list → new.is_whole ≡ old.is_whole
  pub room : vec_capacity old.list ≤ vec_capacity new.list
  pub ended : new.is_ended ≡ end

-- it lists just these events, as shown in sequence order from 0 on, and the last of them ended what was available
abbrev pub HasListed : {A : Type 0} → List Event → Watching A → Type 0
HasListed events w = (w.is_whole ≡ true) × (w.is_ended ≡ true) × (w.list.items ≡ events)

-- the first that did not list just these events
abbrev pub IsFirstUnlike : {A : Type 0} → List (Watching A) → List Event → ℕ → Type 0
IsFirstUnlike {A} ws events h = (h < length ws) × FirstLacks (λ k. (w : Watching A) → HasListed events (slice_index_or ws k w)) h

-- a fault that names that one
abbrev pub IsNamedUnlike : {A : Type 0} → List (Watching A) → List Event → HistoryFault → Type 0
IsNamedUnlike ws events (Shown h) = IsFirstUnlike ws events h
IsNamedUnlike ws events (Audit f) = ⊥

-- a handler that was shown nothing yet
abbrev pub IsNew : {A : Type 0} → A → Watching A → Type 0
IsNew start w = (w.handler ≡ start) × HasListed [] w
