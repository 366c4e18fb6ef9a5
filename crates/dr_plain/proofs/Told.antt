-- Who was told that the ring drained, was told so by a poll of the run.
use Rattle.std.proofs.Common.{◌≡◌, ◌⊎◌, ℕ, inl, inr, Bool, true, if◌then◌else◌, List, [], ◌∷◌, set, sym, ap, ◌∙◌, subst, refl, arith}
use Rattle.std.specs.Prelude.{Contains}
use Rattle.std.proofs.lemmas.Bool.{or_cases, false≢true}
use mathlib.Core.Option.{some}
use lib.ListN.{get_elem?}
use Rattle.dr_meaning.specs.Meaning.Transcript.{Transcript}
use Rattle.dr_runs.specs.OneSender.Words.{cursor_word, closed_word, count_word}
use Rattle.dr_runs.specs.Entries.{told_drained}
use Rattle.dr_runs.proofs.Told.{WasTold, all_stay, one_hears, none_hears, told_runs}
use Rattle.dr_plain.specs.Meaning.Shape.{Shape, handlers_of}
use Rattle.dr_plain.specs.declared.record.ReceiverRecord.{ReceiverRecord}
use Rattle.dr_plain.specs.declared.record.Step.{Step}
use Rattle.dr_plain.specs.declared.record.Step.TheVariants.{SenderLooksAtCount, SenderLooksAtHalt, SenderPublishes, SenderHalts, SenderCloses}
use Rattle.dr_plain.specs.declared.record.Step.TheVariants.{ReceiverLooksAtClosed, ReceiverLooksAtCursor, ReceiverLooksAtCount, ReceiverCompletes, HalterHalts, HalterLooks}
use Rattle.dr_plain.specs.Meaning.Records.{tells_drained, closed_looked, cursor_looked, receiver_looked, completed_to, taken_at}
use Rattle.dr_plain.specs.Meaning.Rule.{World}
use Rattle.dr_plain.specs.Meaning.Steps.{Happens, next_of}
use Rattle.dr_plain.specs.Meaning.Moments.{Runs, entries_of, batch_at, new_world, receiver_at, WereTold}
use Rattle.dr_plain.proofs.Beginning.{fresh_at}
use Rattle.dr_runs.proofs.Elements.{word_at}
use Rattle.dr_plain.proofs.Pictures.{is_receiver}

-- each look that tells a receiver so has the entry
abbrev LooksTell : Type 0 → Shape → Type 0
LooksTell T k = (w : World T) (g room : ℕ) (q : ReceiverRecord T) → get_elem? w.receivers g ≡ some q → tells_drained q (word_at w.words cursor_word) ≡ true
    → Contains (entries_of k (ReceiverLooksAtCursor g room) w) (told_drained g)

module _ {T : Type 0} where
  -- whether a receiver was told so, and whether that of the handler h was
  abbrev was_told : ReceiverRecord T → Bool
  was_told r = r.told

  abbrev Heard : World T → ℕ → Type 0
  Heard w h = WasTold was_told w.receivers h

  stays : (w u : World T) (h : ℕ) → u.receivers ≡ w.receivers → Heard u h → Heard w h
  stays w u h same now = all_stay was_told w.receivers u.receivers h same now

  quiet : (w u : World T) (g h : ℕ) (q q' : ReceiverRecord T) → get_elem? w.receivers g ≡ some q → u.receivers ≡ set w.receivers g q' → q'.told ≡ q.told → Heard u h → Heard w h
  quiet w u g h q q' at are same now = none_hears was_told w.receivers u.receivers g h q q' at are same now

  pub look_tells : (k : Shape) (w : World T) (g room : ℕ) (q : ReceiverRecord T) → get_elem? w.receivers g ≡ some q → tells_drained q (word_at w.words cursor_word) ≡ true
      → Contains (if tells_drained (receiver_at k w g) (word_at w.words cursor_word) then told_drained g ∷ [] else batch_at k w g cursor_word room) (told_drained {T = T} g)
  look_tells k w g room q at tells =
      let here : tells_drained (receiver_at k w g) (word_at w.words cursor_word) ≡ true = ap (λ (x : ReceiverRecord T). tells_drained x (word_at w.words cursor_word)) (is_receiver k w g q at) ∙ tells in
      subst (λ (b : Bool). Contains (if b then told_drained g ∷ [] else batch_at k w g cursor_word room) (told_drained {T = T} g)) (sym here) (0, omega arith, refl)

  told_step : (k : Shape) → LooksTell T k → (s : Step T) (w u : World T) (h : ℕ) → Happens k s w u → Heard u h → Heard w h ⊎ Contains (entries_of k s w) (told_drained h)
  told_step k tell (SenderLooksAtCount f) w u h H now = inl (stays w u h (ap (λ (x : World T). x.receivers) H.1) now)
  told_step k tell (SenderLooksAtHalt n) w u h H now = inl (stays w u h (ap (λ (x : World T). x.receivers) H.1) now)
  told_step k tell (SenderPublishes events) w u h H now = inl (stays w u h (ap (λ (x : World T). x.receivers) H.4) now)
  told_step k tell SenderHalts w u h H now = inl (stays w u h (ap (λ (x : World T). x.receivers) H) now)
  told_step k tell SenderCloses w u h H now = inl (stays w u h (ap (λ (x : World T). x.receivers) H.2) now)
  told_step k tell (ReceiverLooksAtClosed g) w u h H now =
      inl (quiet w u g h H.0 (closed_looked H.0 (word_at w.words closed_word)) H.1 (ap (λ (x : World T). x.receivers) H.2) refl now)
  told_step k tell (ReceiverLooksAtCursor g room) w u h H now =
      let told : ℕ → Type 0 = λ j. Contains (entries_of k (ReceiverLooksAtCursor g room) w) (told_drained j) in
      let found = word_at w.words cursor_word in
      elim (one_hears was_told w.receivers u.receivers g h H.0 (cursor_looked H.0 found (next_of w H.0 (taken_at H.0 cursor_word found room))) (told g) H.1
      (ap (λ (x : World T). x.receivers) H.2) (λ heard. elim (or_cases H.0.told (tells_drained H.0 (word_at w.words cursor_word)) heard) [
        | inl before ↦ inl before
        | inr now_told ↦ inr (tell w g room H.0 H.1 now_told)
      ]) now) [
        | inl before ↦ inl before
        | inr tells ↦ inr (subst told (sym tells.0) tells.1)
      ]
  told_step k tell (ReceiverLooksAtCount g c room) w u h H now =
      let found = word_at w.words (count_word c) in
      inl (quiet w u g h H.0 (receiver_looked H.0 (count_word c) found (next_of w H.0 (taken_at H.0 (count_word c) found room))) H.1 (ap (λ (x : World T). x.receivers) H.2.1) refl now)
  told_step k tell (ReceiverCompletes g n) w u h H now = inl (quiet w u g h H.0 (completed_to H.0 n) H.1 (ap (λ (x : World T). x.receivers) H.2.2) refl now)
  told_step k tell HalterHalts w u h H now = inl (stays w u h (ap (λ (x : World T). x.receivers) H) now)
  told_step k tell (HalterLooks word) w u h H now = inl (stays w u h (ap (λ (x : World T). x.receivers) H.1) now)

  -- and nobody was told anything before a ring begins
  pub were_told : (k : Shape) → LooksTell T k → (steps : List (Step T)) (es : Transcript T) (w : World T) → Runs k steps es (new_world k) w → WereTold w es
  were_told k tell steps es w R h r at heard =
      elim (told_runs (Happens k) (entries_of k) (λ (x : World T). x.receivers) was_told (λ s v u j H. told_step k tell s v u j H) steps es (new_world k) w h R (r, at, heard)) [
        | inl before ↦ absurd (false≢true (sym (ap was_told (fresh_at k 0 (handlers_of k) h before.0 before.1)) ∙ before.2))
        | inr told ↦ told
      ]
