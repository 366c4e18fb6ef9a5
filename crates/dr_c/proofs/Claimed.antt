-- What one of several senders has is what claims gave it, after each of its calls too.
use Rattle.std.proofs.Common.{◌≡◌, ℕ, ◌+◌, ◌<◌, ◌≤◌, ◌^◌, ◌==◌, Bool, if◌then◌else◌, List, [], ◌∷◌, ◌++◌, map, inl, inr, refl, sym, ap, subst, ◌∙◌, arith}
use Rattle.std.specs.Prelude.{Result, Ok, Err}
use Rattle.std.proofs.lemmas.Bool.{cases_Bool}
use mathlib.Core.Option.{some}
use lib.ListN.{get_elem?}
use Rattle.dr_seq.specs.declared.event.Event.{Event}
use Rattle.dr_meaning.specs.declared.claim_fault.ClaimFault.{ClaimFault}
use Rattle.dr_meaning.specs.declared.command.Claimed.{Claimed}
use Rattle.dr_meaning.specs.declared.refusal.Refusal.{Refusal}
use Rattle.dr_runs.proofs.Lists.{at_map}
use Rattle.dr_lent.specs.declared.lent.Lent.{Lent}
use Rattle.dr_plain_senders.specs.Meaning.Shape.{Shape}
use Rattle.dr_plain_senders.specs.declared.record.Own.{Own}
use Rattle.dr_plain_senders.specs.declared.record.SenderRecord.{SenderRecord}
use Rattle.dr_plain_senders.specs.Meaning.Records.{fresh_own, own_after, own_published, published}
use Rattle.dr_plain_senders.specs.Calls.Ends.{SenderEnd, EndPlace, sender_place}
use Rattle.dr_plain_senders.specs.Calls.Sending.{SenderClaimCall}
use Rattle.dr_plain_senders.specs.Calls.Writing.{WriteCall, UpdateCall}
use Rattle.dr_plain_senders.specs.Calls.Publishing.{PublishCall}
use Rattle.dr_plain_senders.proofs.KeepsClaims.{fresh_at}
use Rattle.dr_plain_senders.proofs.Places.{more_cases}
use Rattle.dr_c.specs.Slots.{AreWithin, HasClaimed, HasEachOnce}

-- each of these is of the sequence of one of those, at its place
abbrev AreOfThose : List (Own Event) → List (Own Event) → Type 0
AreOfThose own those = (i : ℕ) (o : Own Event) → get_elem? own i ≡ some o → (b : Own Event) × (get_elem? those i ≡ some b) × (b.sequence ≡ o.sequence)

-- so are all once some are published
after_sequence : (s : ℕ) (l : Lent Event) (o : Own Event) → (own_after s (published l) o).sequence ≡ o.sequence
after_sequence s l o = elim (cases_Bool (o.sequence == s)) [
  | inl here ↦ ap (λ (b : Bool). (let y : Own Event = (if b then record o { stage = published l o.stage } else o) in y.sequence)) here
  | inr other ↦ ap (λ (b : Bool). (let y : Own Event = (if b then record o { stage = published l o.stage } else o) in y.sequence)) other
]

after_published : (s : ℕ) (lents : List (Lent Event)) (own : List (Own Event)) → AreOfThose (own_published s lents own) own
after_published s [] own i o at = (o, at, refl)
after_published s (l ∷ lents) own i o at =
    let next = after_published (s + 1) lents (map (own_after s (published l)) own) i o at in
    let from = at_map (own_after s (published l)) own i next.0 next.1 in
    (from.0, from.1, sym (after_sequence s l from.0) ∙ ap (λ (x : Own Event). x.sequence) from.2 ∙ next.2)

-- More from a sequence on that is above all of them.
module _ (own : List (Own Event)) (p lo n limit : ℕ) (behind : (i : ℕ) (o : Own Event) → get_elem? own i ≡ some o → o.sequence < lo) where
  new_at : (i : ℕ) (o : Own Event) → get_elem? (fresh_own p lo n) i ≡ some o → (i < n) × (lo + i ≡ o.sequence)
  new_at i o at = let d = fresh_at p lo n i o at in (d.0, ap (λ (x : Own Event). x.sequence) d.1)

  once_more : HasEachOnce own → HasEachOnce (own ++ fresh_own p lo n)
  once_more once i j o q here there same = elim (more_cases own (fresh_own p lo n) i o here) [
    | inl old ↦ elim (more_cases own (fresh_own p lo n) j q there) [
      | inl too ↦ once i j o q old too same
      | inr new ↦ (let below = behind i o old in let at = new_at new.0 q new.2 in absurd (omega arith))
    ]
    | inr new ↦ elim (more_cases own (fresh_own p lo n) j q there) [
      | inl old ↦ (let below = behind j q old in let at = new_at new.0 o new.2 in absurd (omega arith))
      | inr too ↦ (let here_at = new_at new.0 o new.2 in let there_at = new_at too.0 q too.2 in
          let a = new.1 in let b = too.1 in omega arith)
    ]
  ]

  within_more : lo + n ≤ limit → limit ≤ 2 ^ 62 → AreWithin limit own → AreWithin limit (own ++ fresh_own p lo n)
  within_more fits few within i o here = elim (more_cases own (fresh_own p lo n) i o here) [
    | inl old ↦ within i o old
    | inr new ↦ (let at = new_at new.0 o new.2 in (omega arith, omega arith))
  ]

module _ (e e' : SenderEnd Event) where
  kept : e'.plan ≡ e.plan → AreOfThose e'.knows.own e.knows.own → HasClaimed e → HasClaimed e'
  kept plan from had = record {
    once = λ i j o q here there same. (let a = from i o here in let b = from j q there in had.once i j a.0 b.0 a.1 b.1 (a.2 ∙ same ∙ sym b.2));
    within = λ i o here. (let a = from i o here in
        subst (λ (k : Shape Event). (o.sequence < k.limit) × (o.sequence < 2 ^ 62)) (sym plan)
        (subst (λ (s : ℕ). (s < e.plan.limit) × (s < 2 ^ 62)) a.2 (had.within i a.0 a.1)));
  }

  same_own : e'.plan ≡ e.plan → e'.knows.own ≡ e.knows.own → HasClaimed e → HasClaimed e'
  same_own plan own had = kept plan (λ i o here. (o, ap (λ (xs : List (Own Event)). get_elem? xs i) (sym own) ∙ here, refl)) had

  of_plan : sender_place e' ≡ sender_place e → e'.plan ≡ e.plan
  of_plan place = ap (λ (x : EndPlace Event). x.1) place

  pub claim_keeps : (n : ℕ) (result : Result Claimed ClaimFault) → SenderClaimCall e n e' result → HasClaimed e → HasClaimed e'
  claim_keeps n (Ok c) call had =
      let r = e.knows in
      let grown : e'.knows.own ≡ r.own ++ fresh_own r.number c.lo n = ap (λ (x : SenderRecord Event). x.own) call.0.knows in
      let plan : e'.plan ≡ e.plan = call.0.stays.1 in
      let behind : (i : ℕ) (o : Own Event) → get_elem? r.own i ≡ some o → o.sequence < c.lo = λ i o at. call.1.2 o.sequence o.stage (i, at) in
      let once = once_more r.own r.number c.lo n e.plan.limit behind had.once in
      let within = within_more r.own r.number c.lo n e.plan.limit behind call.0.looks.1.limit call.0.few had.within in record {
        once = subst HasEachOnce (sym grown) once;
        within =
            subst (λ (k : Shape Event). AreWithin k.limit e'.knows.own) (sym plan)
            (subst (λ (xs : List (Own Event)). AreWithin e.plan.limit xs) (sym grown) within);
      }
  claim_keeps n (Err fault) call had = same_own call.0.stays.1 (ap (λ (x : SenderRecord Event). x.own) call.0.knows) had

  pub write_keeps : (s : ℕ) (event : Event) (result : Result (Unit {0}) Refusal) → WriteCall e s event e' result → HasClaimed e → HasClaimed e'
  write_keeps s event (Ok done) call had = same_own (of_plan call.place) (ap (λ (x : SenderRecord Event). x.own) call.knows) had
  write_keeps s event (Err refusal) call had = same_own (of_plan call.place) (ap (λ (x : SenderRecord Event). x.own) call.knows) had

  pub update_keeps : (C : Event → Event → Type 0) (s : ℕ) (result : Result (Unit {0}) Refusal) → UpdateCall C e s e' result → HasClaimed e → HasClaimed e'
  update_keeps C s (Ok done) call had = write_keeps s call.1 (Ok done) call.4 had
  update_keeps C s (Err refusal) call had = same_own (of_plan call.place) (ap (λ (x : SenderRecord Event). x.own) call.knows) had

  pub publication_keeps : (lo hi : ℕ) (result : Result (Unit {0}) Refusal) → PublishCall e lo hi e' result → HasClaimed e → HasClaimed e'
  publication_keeps lo hi (Ok done) call had =
      let own : e'.knows.own ≡ own_published lo call.lents e.knows.own = ap (λ (x : SenderRecord Event). x.own) call.knows in
      kept (of_plan call.place)
      (λ i o here. after_published lo call.lents e.knows.own i o (ap (λ (xs : List (Own Event)). get_elem? xs i) (sym own) ∙ here)) had
  publication_keeps lo hi (Err refusal) call had = same_own (of_plan call.place) (ap (λ (x : SenderRecord Event). x.own) call.knows) had
