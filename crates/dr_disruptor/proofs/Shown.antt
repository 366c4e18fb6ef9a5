-- The events of sequences that are all published.
use Rattle.std.proofs.Common.{◌≡◌, ℕ, suc, true, List, [], ◌∷◌, map, Option, None, Some, refl, ap, ◌∙◌}
use Rattle.std.specs.Prelude.{is_some, unwrap_or}
use Rattle.std.specs.List.{cons_option, filter_map}
use Rattle.std.proofs.lemmas.Bool.{false≢true}
use mathlib.Core.Option.{some}
use lib.ListN.{get_elem?}
use Rattle.dr_lent.specs.declared.lent.Lent.{Lent}
use Rattle.dr_plain_senders.specs.declared.record.Own.{Own}
use Rattle.dr_plain_senders.specs.declared.record.Stage.{Stage}
use Rattle.dr_plain_senders.specs.Meaning.Moments.{event_in, event_of}
use Rattle.dr_plain_senders.specs.Meaning.Records.{is_published}
use Rattle.dr_lent.specs.Events.{events_of}
use Rattle.dr_plain_senders.specs.Calls.InPlace.{events_in}

module _ {T : Type 0} (blank : T) where
  -- the event of a stage, or one for all that is not published
  abbrev pub shown : Stage T → T
  shown t = unwrap_or (event_of t) blank

  -- those of a sender's sequences
  abbrev pub shown_in : List (Own T) → List T
  shown_in own = map (λ o. shown o.stage) own

  -- each of them is published
  abbrev pub AreOut : List (Own T) → Type 0
  AreOut own = (i : ℕ) (o : Own T) → get_elem? own i ≡ some o → is_published o.stage ≡ true

  abbrev pub AllOut : List (Stage T) → Type 0
  AllOut ts = (s : ℕ) (t : Stage T) → get_elem? ts s ≡ some t → is_published t ≡ true

  shows_lent : (o : Option (Lent T)) → is_some o ≡ true → event_in o ≡ Some (unwrap_or (event_in o) blank)
  shows_lent None out = absurd (false≢true out)
  shows_lent (Some l) out = refl

  pub shows : (t : Stage T) → is_published t ≡ true → event_of t ≡ Some (shown t)
  shows t out = shows_lent t.lent out

  pub all_shown : (own : List (Own T)) → AreOut own → events_in own ≡ shown_in own
  all_shown [] out = refl
  all_shown (o ∷ own) out =
      ap (λ (x : Option T). cons_option x (events_in own)) (shows o.stage (out 0 o refl))
      ∙ ap (λ (l : List T). shown o.stage ∷ l) (all_shown own (λ i x at. out (suc i) x at))

  lent_first : (o : Option (Lent T)) (rest : List (Lent T)) → is_some o ≡ true
      → events_of (cons_option o rest) ≡ unwrap_or (event_in o) blank ∷ events_of rest
  lent_first None rest out = absurd (false≢true out)
  lent_first (Some l) rest out = refl

  -- what was lent of stages that are all published
  pub all_lent : (ts : List (Stage T)) → AllOut ts → events_of (filter_map (λ t. t.lent) ts) ≡ map shown ts
  all_lent [] out = refl
  all_lent (t ∷ ts) out =
      lent_first t.lent (filter_map (λ t. t.lent) ts) (out 0 t refl) ∙ ap (λ (l : List T). shown t ∷ l) (all_lent ts (λ s u at. out (suc s) u at))
