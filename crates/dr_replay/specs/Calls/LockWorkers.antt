-- What the workers of a replay behind a lock do.
use Rattle.std.specs.Prelude.{◌≡◌, ℕ, false, List, [], Option, None, Some, Result, Ok, Err}
use Rattle.dr_seq.specs.declared.event.Event.{Event}
use Rattle.dr_meaning.specs.Calls.Calling.{SomeCalls}
use Rattle.dr_workers.specs.declared.fault.WorkFault.{WorkFault}
use Rattle.dr_workers.specs.declared.fault.WorkFault.TheVariants.{Stopped}
use Rattle.dr_workers.specs.declared.producer.Produced.{Produced}
use Rattle.dr_lock.specs.Calls.Asking.{InletAsks, OutletAsks}
use Rattle.dr_lock.specs.Calls.Lock.{EndView, no_calls}
use Rattle.dr_workers.specs.Calls.Serving.{Serves}
use Rattle.dr_lock.specs.Meaning.History.{History}
use Rattle.dr_reports.specs.Keeping.{AnswersFor}
use Rattle.dr_replay.specs.Calls.Listing.{Listed, Lists}
use Rattle.dr_replay.specs.Calls.Sending.{SendsInClaims}

-- the list of a part of the report, where a worker gives one back
abbrev pub list_of : {A F : Type 0} → Result A F → (A → List Event) → Option (List Event)
list_of (Ok part) list_in = Some (list_in part)
list_of (Err fault) list_in = None

-- a worker that answers no fault gives back the list of all that it was shown, and any other none
abbrev pub GivesList : Option WorkFault → Listed → Option (List Event) → Type 0
GivesList None after list = (after.failed ≡ false) × (list ≡ Some after.list)
GivesList (Some fault) after list = list ≡ None

-- the worker of the handler h began with an unused end, listed what that handed out to room for 256 events, came to its gate with each batch, and answers for what these calls came to, each a call of that handler;
-- that it was stopped it answers only where its gate may stop it
pub record HasHandled (begun : History Event) (h : ℕ) (may_stop must_stop : ℕ → Type 0) (back : EndView Event) (answer : Option WorkFault) (list : Option (List Event)) : Type 0 where
  pub start : Listed
  pub after : Listed
  pub fault : Option WorkFault
  pub new : start.list ≡ []
  pub well : start.failed ≡ false
  pub calls : SomeCalls (OutletAsks begun h) no_calls back (Serves 256 Lists start after None None may_stop must_stop fault)
  pub answers : AnswersFor after.failed fault answer
  pub stopped : answer ≡ Some Stopped → (passage : ℕ) × may_stop passage
  pub lists : GivesList answer after list

-- the worker of the producer p began with an unused end, and sent the first of a script in such claims, each call of them one of that producer
pub record HasSent (begun : History Event) (p cut : ℕ) (script : List Event) (may_stop must_stop : ℕ → Type 0) (back : EndView Event) (answer : Option WorkFault) : Type 0 where
  pub produced : Produced
  pub sends : SendsInClaims (InletAsks begun p) cut script may_stop must_stop no_calls back produced
  pub answers : answer ≡ produced.fault
