use Rattle.std.proofs.Common.{◌≡◌, ◌<◌, List, [], ◌∷◌, ◌++◌, Option, Err, Ok, length, refl, ap, ◌∙◌, subst, append_assoc, arith}
use Rattle.dr_seq.specs.declared.event.Event.{Event}
use Rattle.dr_meaning.specs.declared.refusal.Refusal.TheVariants.{OpenClaim}
use Rattle.dr_runs.specs.Runs.{IsBeginning}
use Rattle.dr_ring.specs.declared.record.SenderRecord.{SenderRecord}
use Rattle.dr_ring.specs.declared.record.Step.{Step}
use Rattle.dr_ring.specs.declared.record.Step.TheVariants.{SenderHalts, SenderCloses}
use Rattle.dr_ring.specs.Meaning.Records.{seen_before, sender_closed, sender_halted}
use Rattle.dr_ring.specs.Calls.Ends.{SenderEnd}
use Rattle.dr_runs.proofs.Beginnings.{begins_same, begins_on}
use Rattle.dr_ring.proofs.sender.Sender.close.Goals as goal

empty : {A : Type 0} (xs : List A) → length xs ≡ 0 → xs ≡ []
empty [] none = refl
empty (x ∷ xs) none = absurd (omega arith)

pub returns-then-self-clause-done : goal.returns-then-self-clause-done
returns-then-self-clause-done c =
    let next = c.self.invariant.next in let front = c.self.invariant.front in let test = c.if-self.true in
    let same = ap (λ (e : SenderEnd). length e.knows.sent.pending) c.self.view_is in
    let some : 0 < length c.args.self.now.knows.sent.pending = omega arith in
    record {
      call = (Err OpenClaim, (refl, (some, refl), refl, begins_same _));
      place = refl;
      published = refl;
      pending = refl;
      saw = refl;
      closed = λ none. (let zero : length c.args.self.now.knows.sent.pending ≡ 0 = ap (λ (l : List (Option Event)). length l) none in absurd (omega arith));
    }

pub returns-clause-done : goal.returns-clause-done
returns-clause-done c =
    let next = c.self.invariant.next in let front = c.self.invariant.front in let test = c.if-self.false in
    let same = ap (λ (e : SenderEnd). length e.knows.sent.pending) c.self.view_is in
    let none = empty c.args.self.now.knows.sent.pending (omega arith) in
    let was = c.self.view_is in let halts = c.halt.ensures in let closes = c.close.ensures in
    let ring = closes.0 ∙ halts.0 ∙ ap (λ (e : SenderEnd). e.ring) was in
    let knows = closes.1 ∙ ap sender_closed halts.1 ∙ ap (λ (e : SenderEnd). sender_closed (sender_halted e.knows)) was in
    let stored = closes.3 ∙ ap (λ (steps : List Step). steps ++ SenderCloses ∷ []) halts.3
    ∙ append_assoc c.self.inside.station.stored (SenderHalts ∷ []) (SenderCloses ∷ [])
    ∙ ap (λ (e : SenderEnd). e.stored ++ SenderHalts ∷ SenderCloses ∷ []) was in
    let past = begins_on _ _ _ (subst (λ (e : SenderEnd). IsBeginning e.past c.halt.new.self.past) was halts.2) closes.2 in
    record {
      call = (Ok tt, ((λ i. (ring i, (knows i).plan)), (none, knows), stored, past));
      place = λ i. (ring i, (knows i).plan);
      published = ap (λ (r : SenderRecord). r.sent.published) knows;
      pending = ap (λ (r : SenderRecord). r.sent.pending) knows;
      saw = ap seen_before knows;
      closed = λ _. ap (λ (r : SenderRecord). r.closed) knows;
    }
