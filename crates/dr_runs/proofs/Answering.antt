-- What a publication and a claim answer, by their tests.
use Rattle.std.proofs.Common.{◌≡◌, ℕ, zero, suc, ◌+◌, ◌-◌, ◌^◌, ◌<◌, ◌≤◌, false, inl, inr, not, List, [], ◌∷◌, ◌++◌, Option}
use Rattle.std.proofs.Common.{Some, None, length, arith, refl, ap, add-zero}
use Rattle.std.specs.Prelude.{◌==◌, ◌||◌, nat_lt, is_none, flat_map, slice_index_or, Ok, Err}
use Rattle.std.specs.List.{range_with_len}
use Rattle.std.proofs.lemmas.Bool.{cases_Bool, lt-ltb, le-ltb, lt-leb, ltb-false, eq-eqb, ne_eqb}
use Rattle.dr_seq.specs.Size.{IsSize}
use Rattle.dr_meaning.specs.declared.refusal.Refusal.{Refusal}
use Rattle.dr_meaning.specs.declared.refusal.Refusal.TheVariants.{AlreadyPublished, NotWritten, OutOfOrder}
use Rattle.dr_meaning.specs.Meaning.Refusals.{claim_causes, sequence_causes, NoneHolds, IsFirst}
use Rattle.dr_meaning.specs.declared.ends.Trouble.TheVariants.{Refused}
use Rattle.dr_meaning.specs.Calls.Ends.{Verdict, Exactly, MayHold, MayFail, claim_tests, end_sequence_tests, PublishAnswers, Sent, claimed_in}
use Rattle.dr_meaning.proofs.BadCounts.{bad_is_not_one, good_is_never_bad}
use Rattle.dr_meaning.proofs.Causes.{none_join, first_left, first_right, none_of_stretch, first_of_stretch}
use Rattle.dr_runs.specs.OneSender.Replies.{claim_tests_of}

-- the event of an open sequence, once it is written
abbrev pub open_at : {T : Type 0} → Sent T → ℕ → Option T
open_at x s = slice_index_or x.pending (s - length x.published) None

module _ {T : Type 0} (x : Sent T) where
  -- what may refuse to publish one sequence
  abbrev causes_of : ℕ → List (Verdict × Refusal)
  causes_of s = sequence_causes (end_sequence_tests (Some x) s)

  stretch_written : (lo n : ℕ) → length x.published ≤ lo → ((s : ℕ) → lo ≤ s → s < lo + n → (event : T) × (open_at x s ≡ Some event))
      → NoneHolds MayFail (flat_map causes_of (range_with_len lo n))
  stretch_written lo n fresh each = none_of_stretch MayHold MayFail causes_of lo n (λ k l.
      (le-ltb (lo + k) (length x.published) (omega arith), (refl, (ap is_none (each (lo + k) (omega arith) (omega arith)).1, tt))))

  -- where some sequence is not written, the first such one refuses
  stretch_unwritten : (lo n k : ℕ) → length x.published ≤ lo → k < n → open_at x (lo + k) ≡ None
      → IsFirst MayHold MayFail NotWritten (flat_map causes_of (range_with_len lo n))
  stretch_unwritten lo zero k fresh l nothing = absurd (omega arith)
  stretch_unwritten lo (suc n) zero fresh l nothing =
      first_left MayHold MayFail NotWritten (causes_of lo) _ (inr (le-ltb lo (length x.published) fresh, inr (refl, inl (ap is_none (rw add-zero at nothing), refl))))
  stretch_unwritten lo (suc n) (suc k) fresh l nothing =
      let new = le-ltb lo (length x.published) fresh in
      elim (cases_Bool (is_none (open_at x lo))) [
        | inl none ↦ first_left MayHold MayFail NotWritten (causes_of lo) _ (inr (new, inr (refl, inl (none, refl))))
        | inr some ↦ first_right MayHold MayFail NotWritten (causes_of lo) _ (new, (refl, (some, tt)))
            (stretch_unwritten (lo + 1) n k (omega arith) (omega arith) (let e : (lo + 1) + k ≡ lo + suc k = omega arith in rw e nothing))
      ]

  -- a stretch that is all written, from lo to hi
  abbrev pub AllWritten : ℕ → ℕ → Type 0
  AllWritten lo hi = (s : ℕ) → lo ≤ s → s ≤ hi → (event : T) × (open_at x s ≡ Some event)

  pub accepted : (lo hi : ℕ) → lo ≡ length x.published → lo ≤ hi → hi < claimed_in x → AllWritten lo hi → PublishAnswers (Some x) lo hi (Ok tt)
  accepted lo hi front order within all = (
    refl,
    (
      le-ltb hi lo order,
      (
        lt-leb (claimed_in x) hi within,
        none_join MayHold MayFail (flat_map causes_of (range_with_len lo (hi + 1 - lo))) _
            (stretch_written lo (hi + 1 - lo) (omega arith) (λ s low high. all s low (omega arith)))
            (ap not (eq-eqb lo (length x.published) front), tt),
      ),
    ),
  )

  -- the tests before those of the stretch
  past : (lo hi : ℕ) (refusal : Refusal) → lo ≤ hi → hi < claimed_in x
      → IsFirst MayHold MayFail refusal (flat_map causes_of (range_with_len lo (hi + 1 - lo)) ++ (Exactly (not (lo == length x.published)), OutOfOrder) ∷ [])
      → PublishAnswers (Some x) lo hi (Err (Refused refusal))
  past lo hi refusal order within h = inr (refl, inr (le-ltb hi lo order, inr (lt-leb (claimed_in x) hi within, h)))

  pub published_before : (lo hi : ℕ) → lo ≤ hi → hi < claimed_in x → lo < length x.published
      → PublishAnswers (Some x) lo hi (Err (Refused AlreadyPublished))
  published_before lo hi order within early =
      past lo hi AlreadyPublished order within (first_left MayHold MayFail AlreadyPublished (flat_map causes_of (range_with_len lo (hi + 1 - lo))) _
      (first_of_stretch MayHold MayFail causes_of lo (hi + 1 - lo) 0 AlreadyPublished (omega arith) (λ j l. absurd (omega arith)) (rw add-zero (inl (lt-ltb lo (length x.published) early, refl)))))

  pub unwritten : (lo hi s : ℕ) → hi < claimed_in x → length x.published ≤ lo → lo ≤ s → s ≤ hi → open_at x s ≡ None
      → PublishAnswers (Some x) lo hi (Err (Refused NotWritten))
  unwritten lo hi s within fresh low high nothing =
      let at : lo + (s - lo) ≡ s = omega arith in
      past lo hi NotWritten (omega arith) within (first_left MayHold MayFail NotWritten (flat_map causes_of (range_with_len lo (hi + 1 - lo))) _
      (stretch_unwritten lo (hi + 1 - lo) (s - lo) fresh (omega arith) (rw at nothing)))

  pub out_of_order : (lo hi : ℕ) → lo ≤ hi → hi < claimed_in x → length x.published < lo → AllWritten lo hi
      → PublishAnswers (Some x) lo hi (Err (Refused OutOfOrder))
  out_of_order lo hi order within late all =
      past lo hi OutOfOrder order within (first_right MayHold MayFail OutOfOrder (flat_map causes_of (range_with_len lo (hi + 1 - lo))) _
      (stretch_written lo (hi + 1 - lo) (omega arith) (λ s low high. all s low (omega arith)))
      (inl (ap not (ne_eqb lo (length x.published) (λ e. absurd (omega arith))), refl)))

-- a count is a size
pub bad_count_fails : (n size : ℕ) → (0 < n) × (n ≤ size) → ((n == 0) || nat_lt size n) ≡ false
bad_count_fails n size is = rw (ne_eqb n 0 (λ z. let some = is.0 in absurd (omega arith)), le-ltb size n is.1) refl

-- What a claim of a ring answers is what every end's claim answers.
module _ {T : Type 0} (x : Sent T) (size limit claimed n : ℕ) (few : limit ≤ 2 ^ 62) (is : IsSize size) (all : claimed ≡ claimed_in x) where
  within : nat_lt limit (claimed + n) ≡ false → nat_lt (2 ^ 62) (claimed_in x + n) ≡ false
  within d = let below = ltb-false limit (claimed + n) d in le-ltb (2 ^ 62) (claimed_in x + n) (omega arith)

  pub claim_of_end : (refusal : Refusal) → IsFirst MayHold MayFail refusal (claim_causes (claim_tests_of size limit claimed n))
      → IsFirst MayHold MayFail refusal (claim_causes (claim_tests (Some x) n))
  claim_of_end refusal (inl h) = inl h
  claim_of_end refusal (inr (a, inl h)) = inr (a, inl (bad_is_not_one n size is h.0, h.1))
  claim_of_end refusal (inr (a, inr (b, inl h))) = inr (a, inr (good_is_never_bad n size is b, inl h))
  claim_of_end refusal (inr (a, inr (b, inr (c, inl h)))) = inr (a, inr (good_is_never_bad n size is b, inr (c, inl (tt, h.1))))
  claim_of_end refusal (inr (a, inr (b, inr (c, inr (d, inl h))))) = inr (a, inr (good_is_never_bad n size is b, inr (c, inr (within d, inl h))))
  claim_of_end refusal (inr (a, inr (b, inr (c, inr (d, inr h))))) = absurd h.1

  pub claim_given : NoneHolds MayFail (claim_causes (claim_tests_of size limit claimed n)) → NoneHolds MayFail (claim_causes (claim_tests (Some x) n))
  claim_given (a, (b, (c, (d, e)))) = (a, (good_is_never_bad n size is b, (c, (within d, e))))
