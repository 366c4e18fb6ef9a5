-- What every state has that some calls lead to from the opening, beside what the core's laws say.
use Rattle.std.proofs.Common.{◌≡◌, ℕ, ◌+◌, ◌-◌, ◌<◌, ◌≤◌, inl, inr, Bool, true, false, ◌&&◌, ◌||◌, []}
use Rattle.std.proofs.Common.{◌∷◌, ◌++◌, arith, refl, length, replicate, Some, None, slice_index}
use Rattle.std.specs.Prelude.{◌==◌, nat_lt, nat_le}
use Rattle.std.proofs.lemmas.Bool.{cond_both, eqb-true, cases_lt}
use Rattle.std.proofs.lemmas.Bool.Decides.{nat_tests}
use Rattle.std.proofs.lemmas.List.{length-append, length-replicate, get_or_append_left, get_or-append_right, get_or-replicate}
use Rattle.dr_meaning.specs.declared.command.Command.{Command}
use Rattle.dr_meaning.specs.declared.command.Command.TheVariants.{Claim, Write, Publish, Poll, Complete, Halt, Retire}
use Rattle.dr_meaning.specs.Meaning.Machine.{Setup, State, Outcome, next, front, producers, available, cursor, refusals, accepted, step, opening}
use Rattle.dr_meaning.specs.Meaning.Transcript.{Transcript, LeadsFrom, LeadsTo}
use Rattle.dr_meaning.proofs.Steps.{NoneHold, unless-cases}
use Rattle.dr_meaning.proofs.FiveLaws.{reached}
use Rattle.dr_meaning.proofs.Sound.{offered-le}
use Rattle.dr_meaning.proofs.Leasts.{least_is}

-- no unclaimed sequence is written or published, each claimed one is a producer's, and there are no more than the limit
pub record IsHeld {E : Type 0} (c : Setup) (m : State E) : Type 0 where
  pub unwritten : (s : ℕ) → next m ≤ s → m.written s ≡ None
  pub unpublished : (s : ℕ) → next m ≤ s → m.published s ≡ false
  pub owned : (s : ℕ) → s < next m → slice_index m.owners s < producers c.mode
  pub within : next m ≤ c.limit

abbrev Holds : {E : Type 0} → Setup → Outcome E → Type 0
Holds c o = IsHeld c o.state

pub opening_held : {E : Type 0} (c : Setup) → IsHeld {E = E} c (opening c)
opening_held c = record {
  unwritten = λ s l. refl;
  unpublished = λ s l. refl;
  owned = λ s l. absurd (omega arith);
  within = omega arith;
}

claim_held : {E : Type 0} (c : Setup) (m : State E) (p n : ℕ) → IsHeld c m → p < producers c.mode → next m + n ≤ c.limit
    → IsHeld c (accepted c m (Claim p n)).state
claim_held c m p n held is fits =
    let len : length (m.owners ++ replicate n p) ≡ length m.owners + length (replicate n p) = length-append m.owners (replicate n p) in
    let many : length (replicate n p) ≡ n = length-replicate n p in
    record {
      unwritten = λ s l. held.unwritten s (omega (arith, len));
      unpublished = λ s l. held.unpublished s (omega (arith, len));
      owned = λ s l. elim (cases_lt s (next m)) [
        | inl old ↦ rw (get_or_append_left m.owners (replicate n p) 0 s old) (held.owned s old)
        | inr new ↦ rw (get_or-append_right m.owners (replicate n p) (length m.owners) s 0 refl new, get_or-replicate n (s - length m.owners) p 0 (omega (arith, len, many))) is
      ];
      within = omega (arith, len, many);
    }

write_held : {E : Type 0} (c : Setup) (m : State E) (p at : ℕ) (event : E) → IsHeld c m → at < next m
    → IsHeld c (accepted c m (Write p at event)).state
write_held c m p at event held claimed = record {
  unwritten = λ s l. cond_both (s == at) (Some event) (m.written s) (λ w. w ≡ None) (λ y. absurd (let e : s ≡ at = eqb-true s at y in omega arith)) (λ n. held.unwritten s l);
  unpublished = held.unpublished;
  owned = held.owned;
  within = held.within;
}

and_false : (b : Bool) → (b && false) ≡ false
and_false true = refl
and_false false = refl

beyond : (lo hi s : ℕ) (b : Bool) → hi < s → b ≡ false → (b || (nat_le lo s && nat_le s hi)) ≡ false
beyond lo hi s b l e = let past : nat_le s hi ≡ false = grind (arith, nat_tests) in rw (e, past) (and_false (nat_le lo s))

publish_held : {E : Type 0} (c : Setup) (m : State E) (p lo hi : ℕ) → IsHeld c m → hi < next m
    → IsHeld c (accepted c m (Publish p lo hi)).state
publish_held c m p lo hi held claimed = record {
  unwritten = held.unwritten;
  unpublished = λ s l. beyond lo hi s (m.published s) (omega arith) (held.unpublished s l);
  owned = held.owned;
  within = held.within;
}

poll_held : {E : Type 0} (c : Setup) (m : State E) (h max : ℕ) → IsHeld c m → IsHeld c (accepted c m (Poll h max)).state
poll_held c m h max held =
    cond_both (nat_lt (slice_index m.taken h) (available c m h)) _ _ (Holds c)
    (λ y. record { unwritten = held.unwritten; unpublished = held.unpublished; owned = held.owned; within = held.within })
    (λ n. cond_both (m.halted && (slice_index m.taken h == next m)) _ _ (Holds c) (λ y. held)
    (λ n'. cond_both (nat_lt (slice_index m.taken h) (cursor c m)) _ _ (Holds c) (λ y. held) (λ n''. held)))

accepted_held : {E : Type 0} (c : Setup) (m : State E) (command : Command E) → IsHeld c m → NoneHold (refusals c m command)
    → IsHeld c (accepted c m command).state
accepted_held c m (Claim p n) held none = claim_held c m p n held (grind (arith, nat_tests, none.0)) (grind (arith, nat_tests, none.1.1.1.0))
accepted_held c m (Write p s event) held none = write_held c m p s event held (grind (arith, nat_tests, none.1.0))
accepted_held c m (Publish p lo hi) held none = publish_held c m p lo hi held (grind (arith, nat_tests, none.1.1.0))
accepted_held c m (Poll h max) held none = poll_held c m h max held
accepted_held c m (Complete h upto) held none = record { unwritten = held.unwritten; unpublished = held.unpublished; owned = held.owned; within = held.within }
accepted_held c m Halt held none = record { unwritten = held.unwritten; unpublished = held.unpublished; owned = held.owned; within = held.within }
accepted_held c m (Retire h) held none = record { unwritten = held.unwritten; unpublished = held.unpublished; owned = held.owned; within = held.within }

pub step_held : {E : Type 0} (c : Setup) (m : State E) (command : Command E) → IsHeld c m → IsHeld c (step c m command).state
step_held c m command held = unless-cases (Holds c) (refusals c m command) m (accepted c m command) (λ r. held) (accepted_held c m command held)

held_from : {E : Type 0} (c : Setup) (m : State E) (t : Transcript E) (end : State E) → IsHeld c m → LeadsFrom c m t end → IsHeld c end
held_from c m [] end at leads = rw (← leads) at
held_from c m (e ∷ es) end at leads = held_from c (step c m e.command).state es end (step_held c m e.command at) leads.2

pub held : {E : Type 0} (c : Setup) (t : Transcript E) (end : State E) → LeadsTo c t end → IsHeld c end
held c t end leads = held_from c (opening c) t end (opening_held c) leads

-- nothing is available that is not claimed
pub available_claimed : {E : Type 0} (c : Setup) (t : Transcript E) (m : State E) (h : ℕ) → LeadsTo c t m → available c m h ≤ next m
available_claimed c t m h leads =
    let offers : available c m h ≤ front m = offered-le c m (reached c t m leads).sound _ in
    let ahead : front m ≤ next m = (least_is m.published (next m)).within in
    omega arith
