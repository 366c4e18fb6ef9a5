-- How the worker of a sender or of a producer sends.
use Rattle.std.specs.Prelude.{◌≡◌, ℕ, ◌<◌, List, Some}
use Rattle.dr_seq.specs.declared.event.Event.{Event}
use Rattle.dr_meaning.specs.Calls.Calling.{InletCall, SomeCalls}
use Rattle.dr_workers.specs.Calls.Serving.{Sends}
use Rattle.dr_workers.specs.declared.fault.WorkFault.TheVariants.{Stopped}
use Rattle.dr_workers.specs.declared.producer.Produced.{Produced}

-- it sent the first of a script in such claims, of one or more, came to its gate with each, and answers what these calls came to; that it was stopped it answers only where its gate may stop it
pub record SendsInClaims {S : Type 0} (does : S → InletCall Event → S → Type 0) (cut : ℕ) (script : List Event) (may_stop must_stop : ℕ → Type 0) (given back : S) (produced : Produced) : Type 0 where
  pub some : 0 < cut
  pub calls : SomeCalls does given back (Sends cut script may_stop must_stop produced)
  pub stopped : produced.fault ≡ Some Stopped → (passage : ℕ) × may_stop passage
