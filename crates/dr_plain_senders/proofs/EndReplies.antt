-- What a sender's calls answer as those of any exchange's end.
use Rattle.std.proofs.Common.{◌≡◌, ℕ, ◌+◌, ◌-◌, ◌^◌, ◌≤◌, inl, inr, Bool, true, false, List, [], ◌∷◌, ◌++◌, refl, sym, ◌∙◌, subst, arith}
use Rattle.std.specs.Prelude.{flat_map, nat_le, nat_lt, None, Result, Ok, Err}
use Rattle.std.specs.List.{range_with_len}
use Rattle.std.proofs.lemmas.Bool.{true≢false}
use Rattle.std.proofs.lemmas.Bool.Decides.{nat_tests}
use Rattle.dr_meaning.specs.declared.refusal.Refusal.{Refusal}
use Rattle.dr_meaning.specs.declared.refusal.Refusal.TheVariants.{NotClaimed}
use Rattle.dr_meaning.specs.Meaning.Refusals.{WriteTests, PublishTests, sequence_causes, write_causes, publish_causes, NoneHolds, IsFirst}
use Rattle.dr_meaning.specs.Calls.Ends.{Verdict, MayHold, MayFail, IsAnswerOf, write_tests, publish_tests, end_sequence_tests, WriteAnswers}
use Rattle.dr_meaning.specs.Calls.Ends.{PublishAnswers, as_end}

-- less is known of the same tests
abbrev Weaker : List (Verdict × Refusal) → List (Verdict × Refusal) → Type 0
Weaker [] [] = Unit {0}
Weaker [] (y ∷ ys) = ⊥
Weaker (x ∷ xs) [] = ⊥
Weaker (x ∷ xs) (y ∷ ys) = (x.1 ≡ y.1) × (MayHold x.0 → MayHold y.0) × (MayFail x.0 → MayFail y.0) × Weaker xs ys

weaker_none : (xs ys : List (Verdict × Refusal)) → Weaker xs ys → NoneHolds MayFail xs → NoneHolds MayFail ys
weaker_none [] [] W none = tt
weaker_none [] (y ∷ ys) W none = absurd W
weaker_none (x ∷ xs) [] W none = absurd W
weaker_none (x ∷ xs) (y ∷ ys) W none = (W.2 none.0, weaker_none xs ys W.3 none.1)

weaker_first : (refusal : Refusal) (xs ys : List (Verdict × Refusal)) → Weaker xs ys → IsFirst MayHold MayFail refusal xs → IsFirst MayHold MayFail refusal ys
weaker_first refusal [] [] W first = first
weaker_first refusal [] (y ∷ ys) W first = absurd W
weaker_first refusal (x ∷ xs) [] W first = absurd W
weaker_first refusal (x ∷ xs) (y ∷ ys) W (inl here) = inl (W.1 here.0, sym W.0 ∙ here.1)
weaker_first refusal (x ∷ xs) (y ∷ ys) W (inr later) = inr (W.2 later.0, weaker_first refusal xs ys W.3 later.1)

weaker_join : (xs ys us vs : List (Verdict × Refusal)) → Weaker xs ys → Weaker us vs → Weaker (xs ++ us) (ys ++ vs)
weaker_join [] [] us vs W V = V
weaker_join [] (y ∷ ys) us vs W V = absurd W
weaker_join (x ∷ xs) [] us vs W V = absurd W
weaker_join (x ∷ xs) (y ∷ ys) us vs W V = (W.0, W.1, W.2, weaker_join xs ys us vs W.3 V)

weaker_stretch : (f g : ℕ → List (Verdict × Refusal)) → ((s : ℕ) → Weaker (f s) (g s)) → (ss : List ℕ) → Weaker (flat_map f ss) (flat_map g ss)
weaker_stretch f g each [] = tt
weaker_stretch f g each (s ∷ ss) = weaker_join (f s) (g s) (flat_map f ss) (flat_map g ss) (each s) (weaker_stretch f g each ss)

module _ (E : Type 0) where
  -- A sequence from 2^62 on is refused as nobody's; of any other an end tells less than its sender knows.

  -- of a write to a smaller one an end tells nothing
  write_weaker : (s : ℕ) (tests : WriteTests Verdict) → nat_le (2 ^ 62) s ≡ false → Weaker (write_causes tests) (write_causes (write_tests {E = E} None s))
  write_weaker s tests below =
      (refl, (λ h. tt), (λ h. refl), (refl, (λ h. tt), (λ h. below), (refl, (λ h. tt), (λ h. refl), (refl, (λ h. tt), (λ h. refl), tt))))

  write_decided : (s : ℕ) (tests : WriteTests Verdict) (result : Result (Unit {0}) Refusal) (past : Bool)
      → nat_le (2 ^ 62) s ≡ past → (past ≡ true → result ≡ Err NotClaimed)
      → IsAnswerOf (write_causes tests) (as_end result) → WriteAnswers {E = E} None s (as_end result)
  write_decided s tests result true is beyond answer = rw (beyond refl) (inr (refl, inl (tt, refl)))
  write_decided s tests (Ok done) false is beyond answer =
      weaker_none (write_causes tests) (write_causes (write_tests {E = E} None s)) (write_weaker s tests is) answer
  write_decided s tests (Err refusal) false is beyond answer =
      weaker_first refusal (write_causes tests) (write_causes (write_tests {E = E} None s)) (write_weaker s tests is) answer

  pub write_answers : (s : ℕ) (tests : WriteTests Verdict) (result : Result (Unit {0}) Refusal) → (2 ^ 62 ≤ s → result ≡ Err NotClaimed)
      → IsAnswerOf (write_causes tests) (as_end result) → WriteAnswers {E = E} None s (as_end result)
  write_answers s tests result beyond answer =
      write_decided s tests result (nat_le (2 ^ 62) s) refl (λ past. beyond (let above : 2 ^ 62 ≤ s = grind (arith, nat_tests, past) in above)) answer

  -- of a publication an end tells also whether its stretch is one
  publish_weaker : (lo hi : ℕ) (tests : PublishTests Verdict) → tests.bad_count ≡ (publish_tests {E = E} None lo hi).bad_count → nat_le (2 ^ 62) hi ≡ false
      → Weaker (publish_causes lo hi tests) (publish_causes lo hi (publish_tests {E = E} None lo hi))
  publish_weaker lo hi tests bad below = (
    refl,
    (λ h. tt),
    (λ h. refl),
    (
      refl,
      (λ h. subst MayHold bad h),
      (λ h. subst MayFail bad h),
      (
        refl,
        (λ h. tt),
        (λ h. below),
        weaker_join (flat_map (λ s. sequence_causes (tests.of_sequence s)) (range_with_len lo (hi + 1 - lo)))
            (flat_map (λ s. sequence_causes (end_sequence_tests {E = E} None s)) (range_with_len lo (hi + 1 - lo))) _ _
            (weaker_stretch (λ s. sequence_causes (tests.of_sequence s)) (λ s. sequence_causes (end_sequence_tests {E = E} None s))
            (λ s. (refl, (λ h. tt), (λ h. refl), (refl, (λ h. tt), (λ h. refl), (refl, (λ h. tt), (λ h. refl), tt)))) (range_with_len lo (hi + 1 - lo)))
            (refl, (λ h. tt), (λ h. refl), tt),
      ),
    ),
  )

  publish_decided : (lo hi : ℕ) (tests : PublishTests Verdict) (result : Result (Unit {0}) Refusal) (past bad : Bool)
      → nat_le (2 ^ 62) hi ≡ past → nat_lt hi lo ≡ bad
      → tests.bad_count ≡ (publish_tests {E = E} None lo hi).bad_count → (bad ≡ false → past ≡ true → result ≡ Err NotClaimed)
      → IsAnswerOf (publish_causes lo hi tests) (as_end result) → PublishAnswers {E = E} None lo hi (as_end result)
  publish_decided lo hi tests result true false is order same beyond answer = rw (beyond refl refl) (inr (refl, inr (order, inl (tt, refl))))
  publish_decided lo hi tests (Ok done) true true is order same beyond answer = absurd (true≢false (sym order ∙ subst MayFail same answer.1.0))
  publish_decided lo hi tests (Err refusal) true true is order same beyond answer = elim answer [
    | inl here ↦ inl (tt, here.1)
    | inr later ↦ elim later.1 [
      | inl here ↦ inr (refl, inl (order, here.1))
      | inr rest ↦ absurd (true≢false (sym order ∙ subst MayFail same rest.0))
    ]
  ]
  publish_decided lo hi tests (Ok done) false bad is order same beyond answer =
      weaker_none (publish_causes lo hi tests) (publish_causes lo hi (publish_tests {E = E} None lo hi))
      (publish_weaker lo hi tests same is) answer
  publish_decided lo hi tests (Err refusal) false bad is order same beyond answer = weaker_first refusal (publish_causes lo hi tests)
      (publish_causes lo hi (publish_tests {E = E} None lo hi)) (publish_weaker lo hi tests same is) answer

  pub publish_answers : (lo hi : ℕ) (tests : PublishTests Verdict) (result : Result (Unit {0}) Refusal)
      → tests.bad_count ≡ (publish_tests {E = E} None lo hi).bad_count
      → (lo ≤ hi → 2 ^ 62 ≤ hi → result ≡ Err NotClaimed)
      → IsAnswerOf (publish_causes lo hi tests) (as_end result) → PublishAnswers {E = E} None lo hi (as_end result)
  publish_answers lo hi tests result same beyond answer =
      publish_decided lo hi tests result (nat_le (2 ^ 62) hi) (nat_lt hi lo) refl refl same
      (λ good past. beyond (let order : lo ≤ hi = grind (arith, nat_tests, good) in order) (let above : 2 ^ 62 ≤ hi = grind (arith, nat_tests, past) in above))
      answer
