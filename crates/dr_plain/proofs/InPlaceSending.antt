-- A sender alone fills and publishes the stretch that it claimed, and is not refused then.
use Rattle.std.proofs.Common.{◌≡◌, ◌⊎◌, ◌<◌, ◌≤◌, ◌+◌, ◌-◌, ℕ, Bool, true, false, List, [], ◌∷◌, ◌++◌, length, map, drop, replicate, get_or, None, Some, Ok, Err, inl, inr, refl, sym, ap, ◌∙◌, arith}
use Rattle.std.specs.Prelude.{◌==◌, flat_map, is_none, nat_le, nat_lt, not}
use Rattle.std.specs.List.{range_with_len}
use Rattle.std.proofs.lemmas.Bool.{false≢true}
use Rattle.std.proofs.lemmas.Bool.Decides.{nat_tests}
use Rattle.std.proofs.lemmas.List.{get_or-map, length-map, take_all}
use Rattle.dr_meaning.specs.declared.command.Claimed.{Claimed}
use Rattle.dr_meaning.specs.declared.ends.Trouble.TheVariants.{Refused}
use Rattle.dr_meaning.specs.declared.refusal.Refusal.{Refusal}
use Rattle.dr_meaning.specs.declared.refusal.Refusal.TheVariants.{OutOfOrder}
use Rattle.dr_meaning.specs.Meaning.Refusals.{NoneHolds, IsFirst, publish_causes, sequence_causes}
use Rattle.dr_meaning.specs.Calls.Ends.{Claims, Exactly, MayFail, MayHold, PublishAnswers, Publishes, Sent, Verdict, WriteAnswers, claimed_in, end_sequence_tests, open_event, publish_tests, written_of}
use Rattle.dr_meaning.proofs.Causes.{none_join, none_of_stretch}
use Rattle.dr_runs.proofs.Lists.{past_end}
use Rattle.dr_plain.specs.Calls.Ends.{SenderEnd}
use Rattle.dr_plain.specs.Calls.Sending.{UpdateCall}
use Rattle.dr_meaning.specs.Calls.InPlaceInlets as inlet
use Rattle.dr_meaning.specs.Calls.InPlaceInlets.{Changes, IsOpen, IsWhole, Opens}
use Rattle.dr_plain.specs.Calls.InPlace.{sending_from, sending_of}

-- what cannot be a refusal
abbrev CannotHold : Verdict → Type 0
CannotHold v = MayHold v → ⊥

no_refusal : (r : Refusal) (tests : List (Verdict × Refusal)) → NoneHolds CannotHold tests → IsFirst MayHold MayFail r tests → ⊥
no_refusal r [] none first = first
no_refusal r (t ∷ tests) none (inl here) = none.0 here.0
no_refusal r (t ∷ tests) none (inr later) = no_refusal r tests none.1 later.1

cannot : (b : Bool) → b ≡ false → CannotHold (Exactly b)
cannot b fails holds = absurd (false≢true (sym fails ∙ holds))

module _ {T : Type 0} where
  pub opens : (n : ℕ) (c : Claimed) (a b : Sent T) → a.pending ≡ [] → Claims n (Ok c) a b → Opens c.lo n (sending_from a) (sending_from b)
  opens n c a b closed claim =
      let none : length a.pending ≡ 0 = ap length closed in
      let first : c.lo ≡ length a.published + length a.pending = claim.0 in
      let at : length a.published ≡ c.lo = omega arith in
      ap sending_from claim.1
      ∙ (λ i. record { published = a.published; first = at i; pending = ap (λ l. l ++ replicate n None) closed i })

  -- a write is refused where the sequence is not claimed, or is published
  refused_where : (b : Sent T) (s : ℕ) (r : Refusal) → WriteAnswers (Some b) s (Err (Refused r)) → (claimed_in b ≤ s) ⊎ (s < length b.published)
  refused_where b s r (inl none) = absurd (false≢true none.0)
  refused_where b s r (inr (h, inl unclaimed)) = inl (grind (arith, nat_tests, unclaimed.0))
  refused_where b s r (inr (h, inr (h', inl published))) = inr (grind (arith, nat_tests, published.0))
  refused_where b s r (inr (h, inr (h', inr (h'', inl strange)))) = absurd (false≢true strange.0)
  refused_where b s r (inr (h, inr (h', inr (h'', inr (h''', never))))) = absurd never

  pub may_change : (b : Sent T) (s : ℕ) (r : Refusal) → IsOpen (sending_from b) s → WriteAnswers (Some b) s (Err (Refused r)) → ⊥
  may_change b s r within refused =
      let low = within.0 in
      let high = within.1 in
      elim (refused_where b s r refused) [ inl beyond ↦ omega arith | inr below ↦ omega arith ]

  pub changes : (Change : T → T → Type 0) (e e' : SenderEnd T) (s : ℕ) → UpdateCall Change e s e' (Ok tt)
      → Changes Change s (sending_of e) (sending_of e')
  changes Change e e' s call = (call.0, call.1, call.3, ap sending_from call.4.1.sent)

  -- what is filled may be published

  written_there : (xs : List T) (k : ℕ) → k < length xs → is_none (get_or (map (λ x. Some x) xs) k None) ≡ false
  written_there [] k less = absurd (omega arith)
  written_there (x ∷ xs) k less = ap is_none (get_or-map (λ x. Some x) (x ∷ xs) k x None less)

  pub may_publish : (lo hi : ℕ) (d : Sent T) (r : Refusal) → IsWhole lo hi (sending_from d) → PublishAnswers (Some d) lo hi (Err (Refused r)) → ⊥
  may_publish lo hi d r whole refused =
      let events = whole.events in
      let tests = publish_tests (Some d) lo hi in
      let first = whole.first in
      let there = whole.some in
      let last = whole.last in
      let many : length d.pending ≡ length events = ap length whole.filled ∙ length-map events (λ x. Some x) in
      let each : (k : ℕ) → k < hi + 1 - lo → NoneHolds CannotHold (sequence_causes (end_sequence_tests (Some d) (lo + k)))
      = λ k less.
      let here : lo + k - length d.published ≡ k = omega arith in
      let written : is_none (open_event d (lo + k)) ≡ false = rw (here, whole.filled) (written_there events k (omega arith)) in (
        cannot (nat_lt (lo + k) (length d.published)) (grind (arith, nat_tests, first)),
        (cannot false refl, (cannot (is_none (open_event d (lo + k))) written, tt)),
      ) in
      let stretch = none_of_stretch MayHold CannotHold (λ s. sequence_causes (end_sequence_tests (Some d) s)) lo (hi + 1 - lo) each in
      let order : (lo == length d.published) ≡ true = grind (arith, nat_tests, first) in
      let last_test : NoneHolds CannotHold ((tests.out_of_order, OutOfOrder) ∷ []) = (cannot (not (lo == length d.published)) (ap not order), tt) in
      let all = none_join MayHold CannotHold (flat_map (λ s. sequence_causes (tests.of_sequence s)) (range_with_len lo (hi + 1 - lo)))
      ((tests.out_of_order, OutOfOrder) ∷ []) stretch last_test in
      let claimed = cannot (nat_le (claimed_in d) hi) (grind (arith, nat_tests, first, many, last)) in
      no_refusal r (publish_causes lo hi tests) (cannot false refl, (cannot (nat_lt hi lo) (grind (arith, nat_tests, there, last)), (claimed, all))) refused

  unwrapped : (xs : List T) → written_of (map (λ x. Some x) xs) ≡ xs
  unwrapped [] = refl
  unwrapped (x ∷ xs) = ap (λ l. x ∷ l) (unwrapped xs)

  pub publishes : (lo hi : ℕ) (d e : Sent T) → IsWhole lo hi (sending_from d) → Publishes lo hi (Ok tt) d e → inlet.Publishes (sending_from d) (sending_from e)
  publishes lo hi d e whole is =
      let first = whole.first in
      let last = whole.last in
      let many : length d.pending ≡ length whole.events = ap length whole.filled ∙ length-map whole.events (λ x. Some x) in
      let most : length d.pending ≤ hi + 1 - length d.published = omega arith in
      let same : hi + 1 - length d.published ≡ length d.pending = omega arith in
      record {
        published = λ events filled.
            ap (λ (x : Sent T). x.published) is
            ∙ ap (λ l. d.published ++ written_of l) (take_all (hi + 1 - length d.published) d.pending most ∙ filled)
            ∙ ap (λ l. d.published ++ l) (unwrapped events);
        closed = ap (λ (x : Sent T). x.pending) is ∙ ap (λ n. drop n d.pending) same ∙ past_end d.pending (length d.pending) refl;
      }
