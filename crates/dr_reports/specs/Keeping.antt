-- What the worker of a handler gives back.
use Rattle.std.specs.Prelude.{◌≡◌, ◌≢◌, ◌⊎◌, ◌≤◌, ℕ, Bool, false, true, List, [], length, Option, None, Some, Result, Ok, Err, IfOk, string_bytes}
use Rattle.dr_seq.specs.declared.event.Event.{Event}
use Rattle.dr_meaning.specs.declared.refusal.Refusal.{Refusal}
use Rattle.dr_meaning.specs.Calls.Calling.{SomeCalls}
use Rattle.dr_meaning.specs.Calls.Handling.{Relation}
use Rattle.dr_ring.specs.Calls.Ends.{ReceiverEnd, receiver_place, received_of}
use Rattle.dr_ring.specs.Calls.Outlets.{receiver_does}
use Rattle.dr_workers.specs.Calls.Serving.{Serves}
use Rattle.dr_workers.specs.declared.fault.WorkFault.{WorkFault}
use Rattle.dr_workers.specs.declared.fault.WorkFault.TheVariants.{Memory, Refused, Stopped}
use Rattle.dr_reports.specs.declared.worker.Worked.{Worked}

abbrev pub error_of : {A E : Type 0} → Result A E → Option E
error_of (Ok x) = None
error_of (Err e) = Some e

-- a worker whose handler found no memory answers just that; any other what its calls came to, or that there was none for its part of the report
abbrev pub AnswersFor : Bool → Option WorkFault → Option WorkFault → Type 0
AnswersFor true fault answer = answer ≡ Some Memory
AnswersFor false fault answer = (answer ≡ fault) ⊎ (answer ≡ Some Memory)

-- a worker took a new handler through what its end handed out to room for 256 events, came to its gate with each batch, and answers for what these calls came to: a refusal of the end, or a stop at the gate;
-- the handler had not failed at first
pub record IsServed {A : Type 0} (goes : Relation Event A) (IsNew : A → Type 0) (failed : A → Bool) (may_stop must_stop : ℕ → Type 0) (given back : ReceiverEnd) (answer : Option WorkFault) : Type 0 where
  pub start : A
  pub after : A
  pub fault : Option WorkFault
  pub new : IsNew start
  pub well : failed start ≡ false
  pub calls : SomeCalls receiver_does given back (Serves 256 goes start after (Some (received_of given.knows)) (Some (received_of back.knows)) may_stop must_stop fault)
  pub answers : AnswersFor (failed after) fault answer

-- a worker gives back the end that it was given, and what it says is the part of the report of what that end received, which was told that the ring drained;
-- that it was stopped it answers only where its gate may stop it, and that it was refused something never, where that end completed no more than it took
pub record Keeps {A : Type 0} (goes : Relation Event A) (IsNew : A → Type 0) (failed : A → Bool) (part_of : List Event → List ℕ) (may_stop must_stop : ℕ → Type 0) (given : ReceiverEnd) (back : Worked) : Type 0 where
  pub place : receiver_place back.receiver ≡ receiver_place given
  pub told : given.knows.received ≡ [] → IfOk back.part (λ text. back.receiver.knows.told ≡ true)
  pub says : given.knows.received ≡ [] → IfOk back.part (λ text. string_bytes text ≡ part_of back.receiver.knows.received)
  pub stopped : back.part ≡ Err Stopped → (passage : ℕ) × may_stop passage
  pub refused : given.knows.completed ≤ length given.knows.received → (refusal : Refusal) → back.part ≢ Err (Refused refusal)
  pub served : IsServed goes IsNew failed may_stop must_stop given back.receiver (error_of back.part)
