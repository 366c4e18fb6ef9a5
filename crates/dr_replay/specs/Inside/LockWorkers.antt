-- What comes of the exchange of a replay behind a lock.
use Rattle.std.specs.Prelude.{◌≡◌, ℕ, ◌+◌, ◌<◌, List, ◌∷◌, length, map, Vec, Result, Ok, Err, slice_index_or, All}
use Rattle.dr_seq.specs.declared.event.Event.{Event}
use Rattle.dr_lock.specs.Calls.Lock.{EndView, no_calls}
use Rattle.dr_lock.specs.Meaning.History.{History}
use Rattle.dr_workers.specs.declared.ended.Ended.{Ended}
use Rattle.dr_reports.specs.Keeping.{error_of}
use Rattle.dr_reports.specs.Passing.{replay_graph}
use Rattle.dr_replay.specs.Calls.LockRuns.{CameOfLock}
use Rattle.dr_replay.specs.Calls.LockWorkers.{HasHandled, HasSent, list_of}
use Rattle.dr_replay.specs.Calls.Workers.{lock_endings}
use Rattle.dr_replay.specs.Meaning.Exchange.{IsHalters}
use Rattle.dr_replay.specs.declared.given_back.Delivered.{Delivered}
use Rattle.dr_replay.specs.declared.fault.ReplayFault.{ReplayFault}
use Rattle.dr_replay.specs.declared.lock_workers.Joined.{Joined}

-- each producer's worker sent its script, in claims of up to all slots; as workers they are numbered from 16 on
pub record AreSent {L Z : Type 0} (begun : History Event) (may_stop must_stop : ℕ → ℕ → Type 0) (size : ℕ) (scripts : List (Vec Event Z)) (sent : List (Delivered L)) : Type 0 where
  pub many : length sent ≡ length scripts
  pub each : (p : ℕ) (s : Delivered L) (script : Vec Event Z) → p < length sent
      → HasSent begun p size (slice_index_or scripts p script).items (may_stop (16 + p)) (must_stop (16 + p)) (slice_index_or sent p s).end (slice_index_or sent p s).fault

-- ends through which nobody has called
pub record AreUnused (halter journal replica business : EndView Event) (producers : List (EndView Event)) : Type 0 where
  pub halter_is : halter ≡ no_calls
  pub journal_is : journal ≡ no_calls
  pub replica_is : replica ≡ no_calls
  pub business_is : business ≡ no_calls
  pub producers_are : All (λ (end : EndView Event). end ≡ no_calls) producers

-- scripts can be sent to an exchange: nobody called through the end that is to halt it, so no claim is refused; and each handler of a replay has one of these, so no producer waits for a handler that never takes an event
abbrev pub CanBegin : {X : Type 0} → EndView Event → List X → Type 0
CanBegin halter each = (halter ≡ no_calls) × (length each ≡ length replay_graph)

-- what came of an exchange that began so, all of whose workers began with unused ends
pub record IsJoined {L Z : Type 0} (begun : History Event) (may_stop must_stop : ℕ → ℕ → Type 0) (size : ℕ) (scripts : List (Vec Event Z)) (joined : Joined L) : Type 0 where
  pub halter : IsHalters joined.halter
  pub journal : HasHandled begun 0 (may_stop 0) (must_stop 0) joined.journal.end (error_of joined.journal.part) (list_of joined.journal.part (λ part. part.list.items))
  pub replica : HasHandled begun 1 (may_stop 1) (must_stop 1) joined.replica.end (error_of joined.replica.part) (list_of joined.replica.part (λ part. part.list.items))
  pub business : HasHandled begun 2 (may_stop 2) (must_stop 2) joined.business.end (error_of joined.business.part) (list_of joined.business.part (λ part. part.list.items))
  pub producers : AreSent begun may_stop must_stop size scripts joined.producers.items

-- so it comes back; where memory or a thread was lacking only the end that halted it does
abbrev pub ComesBack : {L Z : Type 0} → History Event → (ℕ → ℕ → Type 0) → (ℕ → ℕ → Type 0) → ℕ → List (Vec Event Z) → Result (Joined L) (EndView Event) → Type 0
ComesBack begun may_stop must_stop size scripts (Ok joined) = IsJoined begun may_stop must_stop size scripts joined
ComesBack begun may_stop must_stop size scripts (Err halter) = IsHalters halter

-- the end that halted it, whichever way that comes back
abbrev pub halter_of : {L : Type 0} → Result (Joined L) (EndView Event) → EndView Event
halter_of (Ok joined) = joined.halter
halter_of (Err halter) = halter

-- the ends of an exchange, as they came back
abbrev pub ends_of : {L : Type 0} → Joined L → List (EndView Event)
ends_of joined = joined.halter ∷ joined.journal.end ∷ joined.replica.end ∷ joined.business.end ∷ map (λ s. s.end) joined.producers.items

-- how their workers ended
abbrev pub endings_in : {L : Type 0} → Joined L → List Ended
endings_in joined =
    lock_endings (error_of joined.journal.part) (error_of joined.replica.part) (error_of joined.business.part) (map (λ s. s.fault) joined.producers.items)

-- a text is the report of what came of a run; so far nothing is written
abbrev pub SaidOfLock : {A : Type 0} → (A → List ℕ) → (ℕ → ℕ → Type 0) → (ℕ → ℕ → Type 0) → ℕ → Result A ReplayFault → List Event → Type 0
SaidOfLock text_of may_stop must_stop size result events = CameOfLock may_stop must_stop size (λ said text. text ≡ text_of said) (λ text. ⊥) result events
