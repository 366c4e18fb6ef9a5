-- Sequences that are written are not found unwritten.
use Rattle.std.proofs.Common.{◌≡◌, ◌≢◌, ℕ, zero, suc, ◌+◌, ◌-◌, ◌<◌, ◌≤◌, Bool, true, false, List, [], ◌∷◌, ◌++◌, length, inl, inr, refl, sym, ap, subst, ◌∙◌, arith}
use Rattle.std.specs.Prelude.{Some, is_none, Result, Err, flat_map}
use Rattle.std.specs.List.{range_with_len}
use Rattle.std.proofs.lemmas.Bool.{ltb-false, leb-false, false≢true}
use Rattle.dr_meaning.specs.declared.refusal.Refusal.{Refusal}
use Rattle.dr_meaning.specs.declared.refusal.Refusal.TheVariants.{NotWritten, AlreadyPublished, NotClaimed, OutOfOrder, NoProducer, BadCount}
use Rattle.dr_meaning.specs.declared.ends.Trouble.TheVariants.{Refused}
use Rattle.dr_meaning.specs.Meaning.Refusals.{sequence_causes, IsFirst}
use Rattle.dr_meaning.specs.Calls.Ends.{Verdict, MayHold, MayFail, Sent, PublishAnswers, claimed_in, end_sequence_tests, publish_tests, open_event, as_end}
use Rattle.dr_plain.specs.Calls.Ends.{SenderEnd, sent_of}
use Rattle.dr_plain.specs.Calls.Sending.{AreWrittenBelow, PublishCall}

abbrev pub unwritten : Refusal → Bool
unwritten NotWritten = true
unwritten other = false

pub not_it : {A : Type 0} (refusal : Refusal) → unwritten refusal ≡ false → refusal ≡ NotWritten → A
not_it refusal is_other same = absurd (false≢true (sym is_other ∙ ap unwritten same))

module _ {E : Type 0} (x : Sent E) where
  -- a publication is not refused for one that is
  never : (lo n : ℕ) (rest : List (Verdict × Refusal)) → ((s : ℕ) → lo ≤ s → s < lo + n → length x.published ≤ s → is_none (open_event x s) ≡ false)
      → (IsFirst MayHold MayFail NotWritten rest → ⊥)
      → IsFirst MayHold MayFail NotWritten (flat_map (λ s. sequence_causes (end_sequence_tests (Some x) s)) (range_with_len lo n) ++ rest) → ⊥
  never lo zero rest each past h = past h
  never lo (suc n) rest each past (inl h) = not_it AlreadyPublished refl h.1
  never lo (suc n) rest each past (inr (fresh, inl h)) = not_it NotClaimed refl h.1
  never lo (suc n) rest each past (inr (fresh, inr (own, inl h))) =
      false≢true (sym (each lo (omega arith) (omega arith) (ltb-false lo (length x.published) fresh)) ∙ h.0)
  never lo (suc n) rest each past (inr (fresh, inr (own, inr h))) =
      never (lo + 1) n rest (λ s low less. each s (omega arith) (omega arith)) past h.1

  last : (order : Verdict) → IsFirst MayHold MayFail NotWritten ((order, OutOfOrder) ∷ []) → ⊥
  last order (inl h) = not_it OutOfOrder refl h.1
  last order (inr h) = h.1

  publish_never : (lo hi : ℕ) → ((s : ℕ) → length x.published ≤ s → s < hi + 1 → s < claimed_in x → is_none (open_event x s) ≡ false)
      → PublishAnswers (Some x) lo hi (Err (Refused NotWritten)) → ⊥
  publish_never lo hi written (inl h) = not_it NoProducer refl h.1
  publish_never lo hi written (inr (a, inl h)) = not_it BadCount refl h.1
  publish_never lo hi written (inr (a, inr (b, inl h))) = not_it NotClaimed refl h.1
  publish_never lo hi written (inr (a, inr (b, inr (c, h)))) =
      let order = ltb-false hi lo b in let within = leb-false (claimed_in x) hi c in
      never lo (hi + 1 - lo) _ (λ s low less fresh. written s fresh (omega arith) (omega arith)) (last (publish_tests (Some x) lo hi).out_of_order) h

pub never_unwritten : (e e' : SenderEnd (List ℕ)) (lo hi : ℕ) (result : Result (Unit {0}) Refusal) → PublishCall e lo hi e' result
    → AreWrittenBelow e (hi + 1) → result ≢ Err NotWritten
never_unwritten e e' lo hi result call written is =
    publish_never (sent_of e) lo hi written (subst (λ (r : Result (Unit {0}) Refusal). PublishAnswers (Some (sent_of e)) lo hi (as_end r)) is call.1.answer)
