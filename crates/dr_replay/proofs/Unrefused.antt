-- The sender of a new ring that nobody else halted is refused no call for good.
use Rattle.std.proofs.Common.{◌≡◌, ◌-◌, ◌^◌, ◌<◌, ◌≤◌, ℕ, min, Bool, true, false}
use Rattle.std.proofs.Common.{List, [], ◌++◌, length, take, drop, Some, ⊎_elim, sym, ap, ◌∙◌, arith}
use Rattle.std.proofs.lemmas.List.{length-drop, length-take-le}
use Rattle.dr_seq.specs.declared.event.Event.{Event}
use Rattle.dr_meaning.specs.declared.refusal.Refusal.{Refusal}
use Rattle.dr_workers.specs.Calls.Stops.{fault_at_end}
use Rattle.dr_workers.specs.declared.fault.WorkFault.TheVariants.{Refused}
use Rattle.dr_workers.specs.declared.producer.Produced.{Produced}
use Rattle.dr_workers.proofs.Unrefused.{Changes, gives_up_at_claim}
use Rattle.dr_ring.specs.declared.record.SenderRecord.{SenderRecord}
use Rattle.dr_ring.specs.Meaning.Moments.{fresh_sender}
use Rattle.dr_ring.specs.Meaning.Settling.{FoundUnhalted}
use Rattle.dr_ring.specs.Meaning.Shape.{Shape}
use Rattle.dr_ring.specs.Calls.Ends.{SenderEnd}
use Rattle.dr_ring.specs.Calls.Inlets.{sender_does}
use Rattle.dr_ring.proofs.Unrefused as ring
use Rattle.dr_replay.specs.Calls.Workers.{IsSending}

-- a sender shows what it sent
changes : Changes sender_does (λ (e : SenderEnd). e.knows.sent)
changes = record { claims = ring.claims; writes = ring.writes; writes_all = ring.writes_all; publishes = ring.publishes }

-- one that was stopped, or was not, was refused nothing
not_refused : (stopped : Bool) (refusal : Refusal) → Some (Refused refusal) ≡ fault_at_end stopped → ⊥
not_refused true refusal is = cc
not_refused false refusal is = cc

pub sender_served : {may_stop must_stop : ℕ → Type 0} (k : Shape) (size : ℕ) (events : List Event) (given back : SenderEnd) (produced : Produced)
    → IsSending size events may_stop must_stop given back produced → given.knows ≡ fresh_sender k → k.size ≡ size → k.limit ≡ 2 ^ 62
    → length events ≤ 2 ^ 62
    → FoundUnhalted back.knows → (refusal : Refusal) → produced.fault ≡ Some (Refused refusal) → ⊥
sender_served k size events given back produced S fresh slots limit short unhalted refusal is =
    let done = S.done in let calls = S.sends.calls in let cut : ℕ = size in let some : 0 < size = S.sends.some in
    let before : given.knows.sent.pending ≡ [] = ap (λ (r : SenderRecord). r.sent.pending) fresh in
    let complete : done.knows.sent.pending ≡ [] = S.complete before in
    let found : FoundUnhalted done.knows = ring.unhalted_before done back S.closes unhalted in
    ⊎_elim (λ all. not_refused calls.holds.gate.stopped refusal (sym is ∙ all.1))
    (λ gives.
    let claim = gives_up_at_claim sender_does (λ (e : SenderEnd). e.knows.sent) changes cut (omega arith) events
    (drop produced.sent events) gives.0 given done calls.calls before complete calls.lead calls.holds.order gives.1 in
    let left : 0 < length (drop produced.sent events) = gives.1.0 in
    let rest : length (drop produced.sent events) ≡ length events - produced.sent = length-drop produced.sent events in
    let none = ap (λ (r : SenderRecord). r.sent.published) fresh in
    let sent : done.knows.sent.published ≡ take produced.sent events = sym S.closes.published ∙ S.published
    ∙ ap (λ (l : List Event). l ++ take produced.sent events) none in
    let published : length done.knows.sent.published ≡ produced.sent = ap length sent ∙ length-take-le produced.sent events (omega arith) in
    ring.no_refusal_within k given claim.last done calls.calls (min (length (drop produced.sent events)) cut) gives.0 fresh calls.lead complete found
    (omega arith) (λ any. omega arith) (omega arith) claim.other claim.claims)
    calls.holds.gate.answers
