-- A handler's worker is refused nothing, where its end completed no more than it took.
use Rattle.std.proofs.Common.{◌≡◌, ◌≢◌, ◌⊎◌, ◌≤◌, ◌<◌, ℕ, Bool, true, false, length, Option, Some, Result, Err, inl, inr, ⊎_elim, ap, sym, ◌∙◌}
use Rattle.dr_seq.specs.declared.event.Event.{Event}
use Rattle.dr_meaning.specs.declared.refusal.Refusal.{Refusal}
use Rattle.dr_meaning.specs.Calls.Calling.{SomeCalls}
use Rattle.dr_meaning.specs.Calls.Handling.{Relation}
use Rattle.dr_workers.specs.Calls.Serving.{Serves}
use Rattle.dr_workers.specs.Calls.Stops.{fault_at_end}
use Rattle.dr_workers.specs.declared.fault.WorkFault.{WorkFault}
use Rattle.dr_workers.specs.declared.fault.WorkFault.TheVariants.{Memory, Refused}
use Rattle.dr_workers.proofs.Untroubled.{AnswersWork, untroubled}
use Rattle.dr_ring.specs.Calls.Ends.{ReceiverEnd, received_of}
use Rattle.dr_ring.specs.Calls.Outlets.{receiver_does}
use Rattle.dr_ring.proofs.Untroubled as ring
use Rattle.dr_reports.specs.Keeping.{AnswersFor, error_of}
use Rattle.dr_reports.proofs.Answering.{one_of_both}

-- a receiver answers a poll with room, and a completion of what it took
answers : AnswersWork receiver_does (λ (e : ReceiverEnd). received_of e.knows)
answers = record { polls = ring.polls; takes = ring.takes; fits = ring.fits; completes = ring.completes; completed = ring.completed }

-- a stop is no refusal
ended : (stopped : Bool) (refusal : Refusal) → fault_at_end stopped ≢ Some (Refused refusal)
ended true refusal is = absurd (cc)
ended false refusal is = absurd (cc)

no_refusal : {A : Type 0} (room : ℕ) (goes : Relation Event A) (start after : A) (may_stop must_stop : ℕ → Type 0) (given back : ReceiverEnd)
    (fault : Option WorkFault) → 0 < room
    → SomeCalls receiver_does given back (Serves room goes start after (Some (received_of given.knows)) (Some (received_of back.knows)) may_stop must_stop fault)
    → given.knows.completed ≤ length given.knows.received → (refusal : Refusal) → fault ≢ Some (Refused refusal)
no_refusal room goes start after may_stop must_stop given back fault some is begins refusal same =
    ⊎_elim (λ told. ended is.holds.gate.stopped refusal (sym told.1 ∙ same))
    (λ trouble. untroubled receiver_does (λ (e : ReceiverEnd). received_of e.knows) answers room some given back is.calls trouble.0 begins is.lead is.holds.order trouble.1)
    is.holds.gate.answers

answered : {A : Type 0} (part : Result A WorkFault) (fault : Option WorkFault) (refusal : Refusal)
    → (error_of part ≡ fault) ⊎ (error_of part ≡ Some Memory) → part ≡ Err (Refused refusal) → fault ≡ Some (Refused refusal)
answered part fault refusal (inl same) is = sym same ∙ ap error_of is
answered part fault refusal (inr memory) is = absurd (let e = ap error_of is in cc)

pub never_refused : {A P : Type 0} (room : ℕ) (goes : Relation Event A) (start after : A) (may_stop must_stop : ℕ → Type 0) (given back : ReceiverEnd)
    (fault : Option WorkFault) (part : Result P WorkFault) (failed : Bool) → 0 < room → AnswersFor failed fault (error_of part)
    → SomeCalls receiver_does given back (Serves room goes start after (Some (received_of given.knows)) (Some (received_of back.knows)) may_stop must_stop fault)
    → given.knows.completed ≤ length given.knows.received → (refusal : Refusal) → part ≢ Err (Refused refusal)
never_refused room goes start after may_stop must_stop given back fault part failed some answers is begins refusal same =
    no_refusal room goes start after may_stop must_stop given back fault some is begins refusal
    (answered part fault refusal (one_of_both failed fault (error_of part) answers) same)
