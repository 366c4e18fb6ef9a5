-- Each command keeps what every state of the machine has.
use Rattle.std.proofs.Common.{◌≡◌, ℕ, zero, suc, ◌+◌, ◌-◌, ◌<◌, ◌≤◌, inl, inr, true, false, ◌||◌, ◌&&◌, List}
use Rattle.std.proofs.Common.{[], ◌∷◌, ◌++◌, arith, refl, ◌∙◌, length, replicate, Some, slice_index}
use Rattle.std.specs.Prelude.{Contains, ◌==◌, nat_le, nat_lt, is_none, flat_map}
use Rattle.std.specs.List.{range_with_len}
use Rattle.std.proofs.lemmas.Bool.{cond_both, or_cases, and_parts, false≢true, cases_eq, eqb-true}
use Rattle.std.proofs.lemmas.Bool.Decides.{nat_tests}
use Rattle.std.proofs.lemmas.List.{length-append, length-replicate, length-set}
use Rattle.dr_meaning.specs.declared.command.Command.{Command}
use Rattle.dr_meaning.specs.declared.command.Command.TheVariants.{Claim, Write, Publish, Poll, Complete, Halt, Retire}
use Rattle.dr_graph.specs.Meaning.Graph.{upstreams_of}
use Rattle.dr_meaning.specs.Meaning.Machine.{Setup, State, Outcome, handlers, next, front, available, offered}
use Rattle.dr_meaning.specs.Meaning.Machine.{refusals, accepted, step, batch, publish_faults, cursor, opening}
use Rattle.dr_meaning.specs.Meaning.Counts.{AreInOrder}
use Rattle.dr_seq.proofs.Stamped.{zeros}
use Rattle.dr_meaning.proofs.Leasts.{least_grows, least_of-member}
use Rattle.dr_meaning.proofs.Steps.{NoneHold, NoneHold-append, unless-cases}
use Rattle.dr_meaning.proofs.Sound.{IsSound, set_count, count_of, within, reach}

-- the front moves on
front_on : (c : Setup) (old new : ℕ) (taken completed : List ℕ) → old ≤ new → AreInOrder c old taken completed → AreInOrder c new taken completed
front_on c old new taken completed on order = record {
  taken_len = order.taken_len;
  completed_len = order.completed_len;
  in_front = λ h. (let l : slice_index taken h ≤ old = order.in_front h in omega arith);
  took = order.took;
  after = order.after;
}

claim_sound : {E : Type 0} (c : Setup) (m : State E) (p n : ℕ) → IsSound c m → IsSound c (accepted c m (Claim p n)).state
claim_sound c m p n sound =
    let more : next m ≤ length (m.owners ++ replicate n p) = rw length-append (omega arith) in
    record {
      marks = record { claimed = λ s h. (let l : s < next m = sound.claimed s h in omega arith); written = sound.written };
      order =
          front_on c (front m) _ m.taken m.completed
          (least_grows m.published m.published (next m) (length (m.owners ++ replicate n p)) more (λ k y. y)) sound.order;
    }

write_sound : {E : Type 0} (c : Setup) (m : State E) (p at : ℕ) (v : E) → IsSound c m → IsSound c (accepted c m (Write p at v)).state
write_sound c m p at v sound = record {
  marks = record {
    claimed = sound.claimed;
    written = λ s h. cond_both (s == at) (Some v) (m.written s) (λ w. is_none w ≡ false) (λ y. refl) (λ n. sound.written s h);
  };
  order = sound.order;
}

-- no sequence of the stretch is at fault
each_written : {E : Type 0} (m : State E) (p lo n : ℕ) → NoneHold (flat_map (publish_faults m p) (range_with_len lo n)) → (s : ℕ) → lo ≤ s → s < lo + n
    → is_none (m.written s) ≡ false
each_written m p lo zero h s a b = absurd (omega arith)
each_written m p lo (suc n) h s a b =
    elim (cases_eq s lo) [
      | inl e ↦ rw e h.1.1.0
      | inr ne ↦ each_written m p (lo + 1) n h.1.1.1 s (omega arith) (omega arith)
    ]

publish_sound : {E : Type 0} (c : Setup) (m : State E) (p lo hi : ℕ) → IsSound c m → NoneHold (refusals c m (Publish p lo hi))
    → IsSound c (accepted c m (Publish p lo hi)).state
publish_sound c m p lo hi sound none =
    let in_claimed : hi < next m = grind (arith, nat_tests, none.1.1.0) in
    let order : lo ≤ hi = grind (arith, nat_tests, none.1.0) in
    let stretch : NoneHold (flat_map (publish_faults m p) (range_with_len lo (hi + 1 - lo))) = (NoneHold-append _ _ none.1.1.1).0 in
    record {
      marks = record {
        claimed = λ s h. elim (or_cases (m.published s) _ h) [
          | inl y ↦ sound.claimed s y
          | inr y ↦ (let b : (nat_le lo s ≡ true) × (nat_le s hi ≡ true) = and_parts _ _ y in grind (arith, nat_tests, b.1))
        ];
        written = λ s h. elim (or_cases (m.published s) _ h) [
          | inl y ↦ sound.written s y
          | inr y ↦ (let b : (nat_le lo s ≡ true) × (nat_le s hi ≡ true) = and_parts _ _ y in
              each_written m p lo (hi + 1 - lo) stretch s (grind (arith, nat_tests, b.0)) (let u : s ≤ hi = grind (arith, nat_tests, b.1) in omega arith))
        ];
      };
      order =
          front_on c (front m) _ m.taken m.completed
          (least_grows m.published (λ k. m.published k || (nat_le lo k && nat_le k hi)) (next m) (next m) (omega arith) (λ k y. rw y)) sound.order;
    }

complete_sound : {E : Type 0} (c : Setup) (m : State E) (at upto : ℕ) → IsSound c m → NoneHold (refusals c m (Complete at upto))
    → IsSound c (accepted c m (Complete at upto)).state
complete_sound c m at upto sound none =
    let inside : at < handlers c = grind (arith, nat_tests, none.0) in
    let len : at < length m.completed = (let e : length m.completed ≡ handlers c = sound.completed_len in omega arith) in
    let up : slice_index m.completed at ≤ upto = grind (arith, nat_tests, none.1.1.0) in
    let low : upto ≤ slice_index m.taken at = grind (arith, nat_tests, none.1.1.1.0) in
    record {
      marks = sound.marks;
      order = record {
        taken_len = sound.taken_len;
        completed_len = length-set m.completed at upto ∙ sound.completed_len;
        in_front = sound.in_front;
        took = λ h. rw (set_count m.completed at upto h len) (cond_both (h == at) upto (slice_index m.completed h) (λ n. n ≤ slice_index m.taken h)
            (λ y. (let e : h ≡ at = eqb-true h at y in rw e low)) (λ n. sound.took h));
        after = λ h u k. rw (set_count m.completed at upto u len)
            (let old : slice_index m.taken h ≤ slice_index m.completed u = sound.after h u k in
            cond_both (u == at) upto (slice_index m.completed u) (λ n. slice_index m.taken h ≤ n)
            (λ y. (let e : u ≡ at = eqb-true u at y in let o : slice_index m.taken h ≤ slice_index m.completed at = rw e at old in omega arith)) (λ n. old));
      };
    }

-- a handler with upstreams is offered no more than each completed
offered_after : {E : Type 0} (m : State E) (ups : List ℕ) (u : ℕ) → Contains ups u → offered m ups ≤ slice_index m.completed u
offered_after m [] u has = absurd (let l : has.0 < 0 = has.1 in omega arith)
offered_after m (x ∷ xs) u has = least_of-member (λ h. slice_index m.completed h) (x ∷ xs) u has

batch_sound : {E : Type 0} (c : Setup) (m : State E) (at limit : ℕ) → IsSound c m → at < handlers c → slice_index m.taken at < available c m at
    → IsSound c (batch c m at limit).state
batch_sound c m at limit sound inside more =
    let len : at < length m.taken = within c m at limit sound inside in
    let to : slice_index m.taken at + count_of c m at limit ≤ front m = reach c m at limit sound inside more in
    let upto : ℕ = slice_index m.taken at + count_of c m at limit in
    record {
      marks = sound.marks;
      order = record {
        taken_len = length-set m.taken at upto ∙ sound.taken_len;
        completed_len = sound.completed_len;
        in_front =
            λ h. rw (set_count m.taken at upto h len) (cond_both (h == at) upto (slice_index m.taken h) (λ n. n ≤ front m) (λ y. to) (λ n. sound.in_front h));
        took = λ h. rw (set_count m.taken at upto h len)
            (let old : slice_index m.completed h ≤ slice_index m.taken h = sound.took h in
            cond_both (h == at) upto (slice_index m.taken h) (λ n. slice_index m.completed h ≤ n)
            (λ y. (let e : h ≡ at = eqb-true h at y in let o : slice_index m.completed h ≤ slice_index m.taken at = rw (← e) old in omega arith)) (λ n. old));
        after = λ h u k. rw (set_count m.taken at upto h len) (cond_both (h == at) upto (slice_index m.taken h) (λ n. n ≤ slice_index m.completed u)
            (λ y. (let e : h ≡ at = eqb-true h at y in
            let o : available c m h ≤ slice_index m.completed u = offered_after m (upstreams_of c.upstreams h) u k in
            let o2 : available c m at ≤ slice_index m.completed u = rw e at o in omega arith))
            (λ n. sound.after h u k));
      };
    }

poll_sound : {E : Type 0} (c : Setup) (m : State E) (at limit : ℕ) → IsSound c m → NoneHold (refusals c m (Poll at limit)) → IsSound c (accepted c m (Poll at limit)).state
poll_sound {E} c m at limit sound none =
    let P : Outcome E → Type 0 = λ o. IsSound c o.state in
    cond_both (nat_lt (slice_index m.taken at) (available c m at)) _ _ P
    (λ y. batch_sound c m at limit sound (grind (arith, nat_tests, none.0)) (grind (arith, nat_tests, y)))
    (λ n. cond_both (m.halted && (slice_index m.taken at == next m)) _ _ P (λ y. sound) (λ n'. cond_both (nat_lt (slice_index m.taken at) (cursor c m)) _ _ P (λ y. sound) (λ n''. sound)))

accepted_sound : {E : Type 0} (c : Setup) (m : State E) (command : Command E) → IsSound c m → NoneHold (refusals c m command) → IsSound c (accepted c m command).state
accepted_sound c m (Claim p n) sound none = claim_sound c m p n sound
accepted_sound c m (Write p s v) sound none = write_sound c m p s v sound
accepted_sound c m (Publish p lo hi) sound none = publish_sound c m p lo hi sound none
accepted_sound c m (Poll h limit) sound none = poll_sound c m h limit sound none
accepted_sound c m (Complete h upto) sound none = complete_sound c m h upto sound none
accepted_sound c m Halt sound none = record { marks = sound.marks; order = sound.order }
accepted_sound c m (Retire h) sound none = record { marks = sound.marks; order = sound.order }

pub step_sound : {E : Type 0} (c : Setup) (m : State E) (command : Command E) → IsSound c m → IsSound c (step c m command).state
step_sound c m command sound =
    unless-cases (λ o. IsSound c o.state) (refusals c m command) m (accepted c m command) (λ r. sound) (accepted_sound c m command sound)

pub opening_sound : {E : Type 0} (c : Setup) → IsSound {E = E} c (opening c)
opening_sound c = record {
  marks = record { claimed = λ s h. absurd (false≢true h); written = λ s h. absurd (false≢true h) };
  order = record {
    taken_len = length-replicate _ 0;
    completed_len = length-replicate _ 0;
    in_front = λ h. rw (zeros (handlers c) h) (omega arith);
    took = λ h. rw (zeros (handlers c) h) (omega arith);
    after = λ h u k. rw (zeros (handlers c) h) (omega arith);
  };
}
