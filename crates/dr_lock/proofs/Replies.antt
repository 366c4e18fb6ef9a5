-- What the machine answers to a call, as an end tells it that shows nothing of what it did.
use Rattle.std.proofs.Common.{◌≡◌, ◌≢◌, ◌<◌, ◌≤◌, ◌+◌, ◌-◌, ◌^◌, ℕ, zero, suc, Bool, true, false, ◌&&◌, inl, inr, List, []}
use Rattle.std.proofs.Common.{◌∷◌, ◌++◌, Ok, Err, Option, None, Some, Result, length, refl, sym, ◌∙◌, subst, arith, slice_index}
use Rattle.std.specs.Prelude.{nat_lt, nat_le, ◌==◌, flat_map}
use Rattle.std.specs.List.{range_with_len}
use Rattle.std.proofs.lemmas.Bool.{cond_both, cases_Bool, or_parts, eqb-false, false≢true}
use Rattle.std.proofs.lemmas.Bool.Decides.{nat_tests}
use Rattle.std.proofs.lemmas.Option.{slice_get_within}
use Rattle.dr_seq.specs.Size.{IsSize}
use Rattle.dr_meaning.specs.declared.command.Command.TheVariants.{Claim, Write, Publish, Poll, Complete}
use Rattle.dr_meaning.specs.declared.command.Reply.{Reply}
use Rattle.dr_meaning.specs.declared.command.Reply.TheVariants.{Claimed, Written, Published, Batch, Drained, Gating, Idle, Completed, Refused as RefusedReply}
use Rattle.dr_meaning.specs.declared.ends.Trouble.{Trouble}
use Rattle.dr_meaning.specs.declared.ends.Trouble.TheVariants.{Refused, Memory}
use Rattle.dr_meaning.specs.declared.ends.Wrote.{Wrote}
use Rattle.dr_meaning.specs.declared.refusal.Refusal.{Refusal}
use Rattle.dr_meaning.specs.Meaning.Refusals.{NoneHolds, IsFirst, claim_causes, write_causes, sequence_causes, publish_causes, poll_causes, complete_causes}
use Rattle.dr_meaning.specs.Calls.Ends.{Verdict, Exactly, AtLeast, Between, MayHold, MayFail, claim_tests, write_tests, publish_tests, end_sequence_tests, poll_tests}
use Rattle.dr_meaning.specs.Calls.Ends.{complete_tests, ClaimAnswers, StopsAt, WriteAllAnswers, WriteAnswers, PublishAnswers, CompleteAnswers}
use Rattle.dr_meaning.specs.Meaning.Machine.{Setup, State, Outcome, next, available, cursor, refusals, publish_faults, accepted, unless, unchanged, step}
use Rattle.dr_meaning.specs.Meaning.Transcript.{Transcript, LeadsTo}
use Rattle.dr_meaning.proofs.Steps.{NoneHold}
use Rattle.dr_meaning.proofs.BadCounts.{bad_in_every, bad_is_not_one}
use Rattle.dr_lock.specs.Calls.Lock.{AreWritten, IsAnswer, IsWritten, IsHindered}
use Rattle.dr_lock.specs.Meaning.History.{History, transcript}
use Rattle.dr_workers.proofs.Picks.{there}
use Rattle.dr_lock.proofs.Reached.{held, available_claimed}

-- Verdicts of the machine's tests.

-- a verdict is right of a test
abbrev pub IsRight : Bool → Verdict → Type 0
IsRight b (Exactly v) = b ≡ v
IsRight b (AtLeast v) = v ≡ true → b ≡ true
IsRight b (Between least most) = (least ≡ true → b ≡ true) × (b ≡ true → most ≡ true)

-- the same causes, with verdicts that are right of their tests
abbrev pub AreRight : List (Bool × Refusal) → List (Verdict × Refusal) → Type 0
AreRight [] [] = Unit {0}
AreRight [] (y ∷ ys) = ⊥
AreRight (x ∷ xs) [] = ⊥
AreRight (x ∷ xs) (y ∷ ys) = IsRight x.0 y.0 × (x.1 ≡ y.1) × AreRight xs ys

unsaid : (b : Bool) → IsRight b (AtLeast false)
unsaid b e = absurd (false≢true e)

may_hold : (b : Bool) (v : Verdict) → IsRight b v → b ≡ true → MayHold v
may_hold b (Exactly v) is y = sym is ∙ y
may_hold b (AtLeast v) is y = tt
may_hold b (Between least most) is y = is.1 y

may_fail : (b : Bool) (v : Verdict) → IsRight b v → b ≡ false → MayFail v
may_fail b (Exactly v) is n = sym is ∙ n
may_fail b (AtLeast v) is n = elim (cases_Bool v) [ inl y ↦ absurd (false≢true (sym n ∙ is y)) | inr n' ↦ n' ]
may_fail b (Between least most) is n = elim (cases_Bool least) [ inl y ↦ absurd (false≢true (sym n ∙ is.0 y)) | inr n' ↦ n' ]

none_right : (xs : List (Bool × Refusal)) (ys : List (Verdict × Refusal)) → AreRight xs ys → NoneHold xs → NoneHolds MayFail ys
none_right [] [] is none = tt
none_right [] (y ∷ ys) is none = absurd is
none_right (x ∷ xs) [] is none = absurd is
none_right (x ∷ xs) (y ∷ ys) is none = (may_fail x.0 y.0 is.0 none.0, none_right xs ys is.2 none.1)

-- the refusal is the first test's that holds
abbrev FirstOf : Refusal → List (Bool × Refusal) → Type 0
FirstOf r tests = IsFirst (λ b. b ≡ true) (λ b. b ≡ false) r tests

first_right : (r : Refusal) (xs : List (Bool × Refusal)) (ys : List (Verdict × Refusal)) → AreRight xs ys
    → FirstOf r xs → IsFirst MayHold MayFail r ys
first_right r [] ys is h = absurd h
first_right r (x ∷ xs) [] is h = absurd is
first_right r (x ∷ xs) (y ∷ ys) is (inl h) = inl (may_hold x.0 y.0 is.0 h.0, sym is.1 ∙ h.1)
first_right r (x ∷ xs) (y ∷ ys) is (inr h) = inr (may_fail x.0 y.0 is.0 h.0, first_right r xs ys is.2 h.1)

right_join : (xs xs' : List (Bool × Refusal)) (ys ys' : List (Verdict × Refusal)) → AreRight xs ys → AreRight xs' ys'
    → AreRight (xs ++ xs') (ys ++ ys')
right_join [] xs' [] ys' is is' = is'
right_join [] xs' (y ∷ ys) ys' is is' = absurd is
right_join (x ∷ xs) xs' [] ys' is is' = absurd is
right_join (x ∷ xs) xs' (y ∷ ys) ys' is is' = (is.0, is.1, right_join xs xs' ys ys' is.2 is')

right_stretch : (tests : ℕ → List (Bool × Refusal)) (told : ℕ → List (Verdict × Refusal))
    → ((s : ℕ) → AreRight (tests s) (told s)) → (lo n : ℕ)
    → AreRight (flat_map tests (range_with_len lo n)) (flat_map told (range_with_len lo n))
right_stretch tests told are lo zero = tt
right_stretch tests told are lo (suc n) = right_join (tests lo) _ (told lo) _ (are lo) (right_stretch tests told are (lo + 1) n)

-- either a test refuses, or none holds
answers : {E : Type 0} (P : Outcome E → Type 0) (tests : List (Bool × Refusal)) (m : State E) (o : Outcome E)
    → ((r : Refusal) → FirstOf r tests → P (unchanged (RefusedReply r) m)) → (NoneHold tests → P o) → P (unless tests m o)
answers P [] m o refuses accepts = accepts tt
answers P (test ∷ tests) m o refuses accepts =
    cond_both test.0 (unchanged (RefusedReply test.1) m) (unless tests m o) P (λ h. refuses test.1 (inl (h, refl)))
    (λ h. answers P tests m o (λ r f. refuses r (inr (h, f))) (λ n. accepts (h, n)))

tells : {E : Type 0} (P : Reply → Type 0) (tests : List (Bool × Refusal)) (told : List (Verdict × Refusal)) (m : State E) (o : Outcome E)
    → AreRight tests told
    → ((r : Refusal) → IsFirst MayHold MayFail r told → P (RefusedReply r)) → (NoneHold tests → NoneHolds MayFail told → P o.reply)
    → P (unless tests m o).reply
tells {E} P tests told m o right refuses accepts =
    answers (λ (x : Outcome E). P x.reply) tests m o (λ r f. refuses r (first_right r tests told right f)) (λ none. accepts none (none_right tests told right none))

-- What each command's reply tells.

abbrev pub ClaimTells : Type 0 → ℕ → Reply → Type 0
ClaimTells E n (Claimed lo hi) = ClaimAnswers {E = E} None n (Ok (record { lo = lo; hi = hi }))
ClaimTells E n (RefusedReply r) = ClaimAnswers {E = E} None n (Err (Refused r))
ClaimTells E n other = ⊥

abbrev pub WriteTells : Type 0 → ℕ → Reply → Type 0
WriteTells E s Written = WriteAnswers {E = E} None s (Ok tt)
WriteTells E s (RefusedReply r) = WriteAnswers {E = E} None s (Err (Refused r))
WriteTells E s other = ⊥

abbrev pub PublishTells : Type 0 → ℕ → ℕ → Reply → Type 0
PublishTells E lo hi Published = PublishAnswers {E = E} None lo hi (Ok tt)
PublishTells E lo hi (RefusedReply r) = PublishAnswers {E = E} None lo hi (Err (Refused r))
PublishTells E lo hi other = ⊥

abbrev pub CompleteTells : Type 0 → ℕ → Reply → Type 0
CompleteTells E upto Completed = CompleteAnswers {E = E} None upto (Ok tt)
CompleteTells E upto (RefusedReply r) = CompleteAnswers {E = E} None upto (Err (Refused r))
CompleteTells E upto other = ⊥

abbrev poll_verdicts : Type 0 → ℕ → List (Verdict × Refusal)
poll_verdicts E max = poll_causes (poll_tests {E = E} None max)

abbrev pub PollTells : Type 0 → ℕ → Reply → Type 0
PollTells E max (Batch first count end) = NoneHolds MayFail (poll_verdicts E max) × (0 < count) × (count ≤ max) × (first + count < 2 ^ 64)
PollTells E max Drained = NoneHolds MayFail (poll_verdicts E max)
PollTells E max Gating = NoneHolds MayFail (poll_verdicts E max)
PollTells E max Idle = NoneHolds MayFail (poll_verdicts E max)
PollTells E max (RefusedReply r) = IsFirst MayHold MayFail r (poll_verdicts E max)
PollTells E max other = ⊥

claim_right : {E : Type 0} (c : Setup) (m : State E) (p n : ℕ) → c.limit ≤ 2 ^ 62 → IsSize c.size
    → AreRight (refusals c m (Claim p n)) (claim_causes (claim_tests {E = E} None n))
claim_right c m p n small size =
    (unsaid _, refl, ((bad_in_every n c.size size, bad_is_not_one n c.size size), refl, (unsaid _, refl, ((λ past. grind (arith, nat_tests, past, small)), refl, (unsaid _, refl, tt)))))

claim_step : {E : Type 0} (c : Setup) (m : State E) (p n : ℕ) → c.limit ≤ 2 ^ 62 → IsSize c.size → ClaimTells E n (step c m (Claim p n)).reply
claim_step {E} c m p n small size =
    tells (ClaimTells E n) (refusals c m (Claim p n)) (claim_causes (claim_tests {E = E} None n)) m (accepted c m (Claim p n)) (claim_right c m p n small size)
    (λ r first. (first, tt))
    (λ none known.
    let some : 0 < n = (let ne : n ≢ 0 = eqb-false n 0 (or_parts _ _ none.1.0).0 in omega arith) in
    let within : next m + n ≤ c.limit = grind (arith, nat_tests, none.1.1.1.0) in
    (known, (omega arith, omega arith, omega arith)))

-- a sequence from 2^62 on is not claimed
beyond : (n limit s : ℕ) → n ≤ limit → limit ≤ 2 ^ 62 → nat_le (2 ^ 62) s ≡ true → nat_le n s ≡ true
beyond n limit s within small past = grind (arith, nat_tests, past, within, small)

write_step : {E : Type 0} (c : Setup) (t : Transcript E) (m : State E) (p s : ℕ) (e : E) → c.limit ≤ 2 ^ 62 → LeadsTo c t m
    → WriteTells E s (step c m (Write p s e)).reply
write_step {E} c t m p s e small leads =
    tells (WriteTells E s) (refusals c m (Write p s e)) (write_causes (write_tests {E = E} None s)) m (accepted c m (Write p s e))
    (unsaid _, refl, (beyond (next m) c.limit s (held c t m leads).within small, refl, (unsaid _, refl, (unsaid _, refl, tt)))) (λ r first. first) (λ none known. known)

publish_right : {E : Type 0} (c : Setup) (m : State E) (p lo hi : ℕ) → next m ≤ c.limit → c.limit ≤ 2 ^ 62
    → AreRight (refusals c m (Publish p lo hi)) (publish_causes lo hi (publish_tests {E = E} None lo hi))
publish_right {E} c m p lo hi within small =
    let stretch = right_stretch (publish_faults m p) (λ s. sequence_causes (end_sequence_tests {E = E} None s)) (λ s. (unsaid _, refl, (unsaid _, refl, (unsaid _, refl, tt)))) lo (hi + 1 - lo) in
    let order = right_join (flat_map (publish_faults m p) (range_with_len lo (hi + 1 - lo))) _ _ _ stretch (unsaid _, refl, tt) in
    (unsaid _, refl, (refl, refl, (beyond (next m) c.limit hi within small, refl, order)))

publish_step : {E : Type 0} (c : Setup) (t : Transcript E) (m : State E) (p lo hi : ℕ) → c.limit ≤ 2 ^ 62 → LeadsTo c t m
    → PublishTells E lo hi (step c m (Publish p lo hi)).reply
publish_step {E} c t m p lo hi small leads =
    tells (PublishTells E lo hi) (refusals c m (Publish p lo hi)) (publish_causes lo hi (publish_tests {E = E} None lo hi)) m (accepted c m (Publish p lo hi))
    (publish_right c m p lo hi (held c t m leads).within small) (λ r first. first) (λ none known. known)

complete_step : {E : Type 0} (c : Setup) (m : State E) (h upto : ℕ) → CompleteTells E upto (step c m (Complete h upto)).reply
complete_step {E} c m h upto =
    tells (CompleteTells E upto) (refusals c m (Complete h upto)) (complete_causes (complete_tests {E = E} None upto)) m (accepted c m (Complete h upto))
    (unsaid _, refl, (unsaid _, refl, (unsaid _, refl, (unsaid _, refl, tt)))) (λ r first. first) (λ none known. known)

poll_accepted : {E : Type 0} (c : Setup) (m : State E) (h max : ℕ) → 0 < max → available c m h ≤ 2 ^ 62 → NoneHolds MayFail (poll_verdicts E max)
    → PollTells E max (accepted c m (Poll h max)).reply
poll_accepted {E} c m h max some small known =
    let P : Outcome E → Type 0 = λ o. PollTells E max o.reply in
    cond_both (nat_lt (slice_index m.taken h) (available c m h)) _ _ P
    (λ y. let less : slice_index m.taken h < available c m h = grind (arith, nat_tests, y) in (known, omega arith, omega arith, omega arith))
    (λ n. cond_both (m.halted && (slice_index m.taken h == next m)) _ _ P (λ y. known)
    (λ n'. cond_both (nat_lt (slice_index m.taken h) (cursor c m)) _ _ P (λ y. known) (λ n''. known)))

poll_step : {E : Type 0} (c : Setup) (t : Transcript E) (m : State E) (h max : ℕ) → c.limit ≤ 2 ^ 62 → LeadsTo c t m
    → PollTells E max (step c m (Poll h max)).reply
poll_step {E} c t m h max small leads =
    tells (PollTells E max) (refusals c m (Poll h max)) (poll_verdicts E max) m (accepted c m (Poll h max))
    (unsaid _, refl, (unsaid _, refl, (refl, refl, tt))) (λ r first. first)
    (λ none known.
    let some : 0 < max = (let ne : max ≢ 0 = eqb-false max 0 none.1.1.0 in omega arith) in
    let claimed : available c m h ≤ next m = available_claimed c t m h leads in
    let within : next m ≤ c.limit = (held c t m leads).within in
    poll_accepted c m h max some (omega arith) known)

-- What an answer tells.

pub claim_tells : {E : Type 0} (b : History E) (p n : ℕ) (reply : Reply) (values : List E) → IsAnswer b (Claim p n) reply values → ClaimTells E n reply
claim_tells {E} b p n reply values is = subst (ClaimTells E n) is.replies (claim_step is.before.core.setup is.recorded.runs.state p n is.recorded.small is.recorded.size)

pub write_tells : {E : Type 0} (b : History E) (p s : ℕ) (e : E) (reply : Reply) (values : List E) → IsAnswer b (Write p s e) reply values
    → WriteTells E s reply
write_tells {E} b p s e reply values is = subst (WriteTells E s) is.replies (write_step is.before.core.setup (transcript is.before) is.recorded.runs.state p s e is.recorded.small is.recorded.runs.leads)

written_tells : {E : Type 0} (b : History E) (p s : ℕ) (e : E) (r : Result (Unit {0}) Trouble) → IsWritten b p s e r → WriteAnswers {E = E} None s r
written_tells b p s e (Ok done) is = write_tells b p s e Written [] is
written_tells b p s e (Err (Refused refusal)) is = write_tells b p s e (RefusedReply refusal) [] is
written_tells b p s e (Err Memory) is = tt

hindered_tells : {E : Type 0} (b : History E) (p lo : ℕ) (events : List E) (count : ℕ) (trouble : Option Trouble) → IsHindered b p lo events count trouble
    → StopsAt {E = E} None lo (length events) count trouble
hindered_tells b p lo events count None is = is
hindered_tells b p lo events count (Some trouble) is = (slice_get_within events count is.0 is.1, written_tells b p (lo + count) is.0 (Err trouble) is.2)

hindered_within : {E : Type 0} (b : History E) (p lo : ℕ) (events : List E) (count : ℕ) (trouble : Option Trouble) → IsHindered b p lo events count trouble
    → count ≤ length events
hindered_within b p lo events count None is = omega arith
hindered_within b p lo events count (Some trouble) is = (let less : count < length events = slice_get_within events count is.0 is.1 in omega arith)

pub write_all_tells : {E : Type 0} (b : History E) (p lo : ℕ) (events : List E) (wrote : Wrote) → AreWritten b p lo events wrote → WriteAllAnswers {E = E} None lo (length events) wrote
write_all_tells {E} b p lo events wrote is = record {
  written = λ k less.
      let within : wrote.count ≤ length events = hindered_within b p lo events wrote.count wrote.trouble is.hindered in
      let at = there events k (omega arith) in
      written_tells b p (lo + k) at.0 (Ok tt) (is.written k at.0 less at.1);
  stops = hindered_tells b p lo events wrote.count wrote.trouble is.hindered;
}

pub publish_tells : {E : Type 0} (b : History E) (p lo hi : ℕ) (reply : Reply) (values : List E) → IsAnswer b (Publish p lo hi) reply values
    → PublishTells E lo hi reply
publish_tells {E} b p lo hi reply values is = subst (PublishTells E lo hi) is.replies (publish_step is.before.core.setup (transcript is.before) is.recorded.runs.state p lo hi is.recorded.small is.recorded.runs.leads)

pub complete_tells : {E : Type 0} (b : History E) (h upto : ℕ) (reply : Reply) (values : List E) → IsAnswer b (Complete h upto) reply values
    → CompleteTells E upto reply
complete_tells {E} b h upto reply values is = subst (CompleteTells E upto) is.replies (complete_step is.before.core.setup is.recorded.runs.state h upto)

pub poll_tells : {E : Type 0} (b : History E) (h max : ℕ) (reply : Reply) (values : List E) → IsAnswer b (Poll h max) reply values → PollTells E max reply
poll_tells {E} b h max reply values is = subst (PollTells E max) is.replies (poll_step is.before.core.setup (transcript is.before) is.recorded.runs.state h max is.recorded.small is.recorded.runs.leads)
