-- What a publication of the open stretch leaves of a sender's own sequences.
use Rattle.std.proofs.Common.{◌≡◌, ◌<◌, ◌+◌, ℕ, suc, max, true, false, List, [], ◌∷◌, ◌++◌, length, map, Option, None, Some, inl, inr, refl, sym, ap, subst, ◌∙◌, arith}
use Rattle.std.specs.Prelude.{is_some}
use Rattle.std.specs.List.{cons_option}
use Rattle.std.proofs.lemmas.Bool.{cases_Bool, false≢true, ne_eqb, eq-eqb}
use Rattle.std.proofs.lemmas.List.{length-map}
use Rattle.dr_lent.specs.declared.lent.Lent.{Lent}
use Rattle.dr_plain_senders.specs.declared.record.Own.{Own}
use Rattle.dr_plain_senders.specs.declared.record.Stage.{Stage}
use Rattle.dr_plain_senders.specs.Meaning.Moments.{event_in, event_of}
use Rattle.dr_plain_senders.specs.Meaning.Records.{own_after, own_published, published}
use Rattle.dr_lent.specs.Events.{events_of}
use Rattle.dr_plain_senders.specs.Calls.InPlace.{events_in, first_open, is_neat, is_stretch, writes_open}
use Rattle.dr_plain_senders.proofs.OwnStretch.{above_open, heads, is_out, still_open, whole_stretch}

module _ {T : Type 0} where
  -- a sequence before others is left as it is
  own_same : (s : ℕ) (further : Stage T → Stage T) (o : Own T) → o.sequence < s → own_after s further o ≡ o
  own_same s further o low = rw (ne_eqb o.sequence s (λ e. omega arith)) refl

  own_kept : (s : ℕ) (lents : List (Lent T)) (o : Own T) (own : List (Own T)) → o.sequence < s → own_published s lents (o ∷ own) ≡ o ∷ own_published s lents own
  own_kept s [] o own low = refl
  own_kept s (l ∷ lents) o own low =
      ap (λ (x : Own T). own_published (s + 1) lents (x ∷ map (own_after s (published l)) own)) (own_same s (published l) o low)
      ∙ own_kept (s + 1) lents o (map (own_after s (published l)) own) (omega arith)

  -- and so are those behind it
  stretch_kept : (limit f s : ℕ) (further : Stage T → Stage T) (own : List (Own T)) → is_stretch limit f own ≡ true → s < f
      → map (own_after s further) own ≡ own
  stretch_kept limit f s further [] is above = refl
  stretch_kept limit f s further (o ∷ own) is above =
      let h = heads limit f o own is in
      let place = h.at in
      let one : own_after s further o ≡ o = rw (ne_eqb o.sequence s (λ e. omega arith)) refl in
      ap (λ (x : Own T). x ∷ map (own_after s further) own) one ∙ ap (λ l. o ∷ l) (stretch_kept limit (suc f) s further own h.rest (omega arith))

  -- each of a stretch is published with what was lent of it
  abbrev outs : List (Own T) → List (Lent T) → List (Own T)
  outs [] lents = []
  outs (o ∷ own) [] = o ∷ own
  outs (o ∷ own) (l ∷ lents) = record { sequence = o.sequence; stage = published l o.stage } ∷ outs own lents

  stretch_out : (limit f : ℕ) (own : List (Own T)) (lents : List (Lent T)) → is_stretch limit f own ≡ true → length lents ≡ length own
      → own_published f lents own ≡ outs own lents
  stretch_out limit f [] [] is many = refl
  stretch_out limit f [] (l ∷ lents) is many = absurd (omega arith)
  stretch_out limit f (o ∷ own) [] is many = absurd (omega arith)
  stretch_out limit f (o ∷ own) (l ∷ lents) is many =
      let h = heads limit f o own is in
      let new : Own T = record { sequence = o.sequence; stage = published l o.stage } in
      let place = h.at in
      let next : f + 1 ≡ suc f = omega arith in
      let one : own_after f (published l) o ≡ new = rw (eq-eqb o.sequence f h.at) refl in
      ap (λ (x : Own T). own_published (f + 1) lents (x ∷ map (own_after f (published l)) own)) one
      ∙ ap (λ m. own_published (f + 1) lents (new ∷ m)) (stretch_kept limit (suc f) f (published l) own h.rest (omega arith))
      ∙ own_kept (f + 1) lents new own (omega arith)
      ∙ ap (λ n. new ∷ own_published n lents own) next
      ∙ ap (λ m. new ∷ m) (stretch_out limit (suc f) own lents h.rest (omega arith))

  -- its events
  none_in : (x : Option (Lent T)) → is_some x ≡ false → event_in x ≡ None
  none_in None is = refl
  none_in (Some l) is = absurd (false≢true (sym is))

  stretch_events : (limit f : ℕ) (own : List (Own T)) → is_stretch limit f own ≡ true → events_in own ≡ []
  stretch_events limit f [] is = refl
  stretch_events limit f (o ∷ own) is =
      let h = heads limit f o own is in
      ap (λ (e : Option T). cons_option e (events_in own)) (none_in o.stage.lent h.open_still) ∙ stretch_events limit (suc f) own h.rest

  outs_events : (own : List (Own T)) (lents : List (Lent T)) → length lents ≡ length own → events_in (outs own lents) ≡ events_of lents
  outs_events [] [] many = refl
  outs_events [] (l ∷ lents) many = absurd (omega arith)
  outs_events (o ∷ own) [] many = absurd (omega arith)
  outs_events (o ∷ own) (l ∷ lents) many = ap (λ m. l.event ∷ m) (outs_events own lents (omega arith))

  before : (e : Option T) (l m : List T) → cons_option e (l ++ m) ≡ cons_option e l ++ m
  before None l m = refl
  before (Some x) l m = refl

  -- what is published then
  pub more_events : (limit above : ℕ) (own : List (Own T)) (writes : List (Option T)) (lents : List (Lent T)) → is_neat limit above own ≡ true
      → length writes ≡ length own → length lents ≡ length (writes_open own writes) → 0 < length lents
      → events_in (own_published (first_open own) lents own) ≡ events_in own ++ events_of lents
  more_events limit above [] writes lents neat many all some_more = absurd (omega arith)
  more_events limit above (o ∷ own) [] lents neat many all some_more = absurd (omega arith)
  more_events limit above (o ∷ own) (w ∷ writes) lents neat many all some_more =
      elim (cases_Bool (is_out o)) [
        | inl out ↦
            let all_is : length lents ≡ length (writes_open own writes) = rw out at all in
            let low = above_open limit (max above (suc o.sequence)) own writes (rw out at neat) (omega arith) (omega arith) in
            rw out (ap events_in (own_kept (first_open own) lents o own (omega arith))
            ∙ ap (cons_option (event_of o.stage)) (more_events limit (max above (suc o.sequence)) own writes lents (rw out at neat) (omega arith) all_is some_more)
            ∙ before (event_of o.stage) (events_in own) (events_of lents))
        | inr still ↦
            let h = still_open limit above o own still neat in
            let whole = ap length (whole_stretch limit o.sequence (o ∷ own) (w ∷ writes) h.stretch many) in
            let each : length lents ≡ length (o ∷ own) = omega arith in
            ap (λ n. events_in (own_published n lents (o ∷ own))) h.first ∙ ap events_in (stretch_out limit o.sequence (o ∷ own) lents h.stretch each)
            ∙ outs_events (o ∷ own) lents each ∙ ap (λ l. l ++ events_of lents) (sym (stretch_events limit o.sequence (o ∷ own) h.stretch))
      ]

  -- all are published
  abbrev AllOut : List (Own T) → Type 0
  AllOut [] = Unit {0}
  AllOut (o ∷ own) = (is_out o ≡ true) × AllOut own

  all_outs : (own : List (Own T)) (lents : List (Lent T)) → length lents ≡ length own → AllOut (outs own lents)
  all_outs [] lents many = tt
  all_outs (o ∷ own) [] many = absurd (omega arith)
  all_outs (o ∷ own) (l ∷ lents) many = (refl, all_outs own lents (omega arith))

  all_out : (limit above : ℕ) (own : List (Own T)) (writes : List (Option T)) (lents : List (Lent T)) → is_neat limit above own ≡ true
      → length writes ≡ length own → length lents ≡ length (writes_open own writes) → 0 < length lents → AllOut (own_published (first_open own) lents own)
  all_out limit above [] writes lents neat many all some_more = absurd (omega arith)
  all_out limit above (o ∷ own) [] lents neat many all some_more = absurd (omega arith)
  all_out limit above (o ∷ own) (w ∷ writes) lents neat many all some_more =
      elim (cases_Bool (is_out o)) [
        | inl out ↦
            let all_is : length lents ≡ length (writes_open own writes) = rw out at all in
            let low = above_open limit (max above (suc o.sequence)) own writes (rw out at neat) (omega arith) (omega arith) in
            rw out (subst AllOut (sym (own_kept (first_open own) lents o own (omega arith)))
            (out, all_out limit (max above (suc o.sequence)) own writes lents (rw out at neat) (omega arith) all_is some_more))
        | inr still ↦
            let h = still_open limit above o own still neat in
            let whole = ap length (whole_stretch limit o.sequence (o ∷ own) (w ∷ writes) h.stretch many) in
            let each : length lents ≡ length (o ∷ own) = omega arith in
            subst AllOut (sym (ap (λ n. own_published n lents (o ∷ own)) h.first ∙ stretch_out limit o.sequence (o ∷ own) lents h.stretch each))
            (all_outs (o ∷ own) lents each)
      ]

  neat_out : (limit above : ℕ) (own : List (Own T)) → AllOut own → is_neat limit above own ≡ true
  neat_out limit above [] out = refl
  neat_out limit above (o ∷ own) out = rw out.0 (neat_out limit (max above (suc o.sequence)) own out.1)

  writes_out : (own : List (Own T)) (writes : List (Option T)) → AllOut own → writes_open own writes ≡ []
  writes_out [] writes out = refl
  writes_out (o ∷ own) [] out = refl
  writes_out (o ∷ own) (w ∷ writes) out = rw out.0 (writes_out own writes out.1)

  pub published_neat : (limit above : ℕ) (own : List (Own T)) (writes : List (Option T)) (lents : List (Lent T)) → is_neat limit above own ≡ true
      → length writes ≡ length own → length lents ≡ length (writes_open own writes) → 0 < length lents
      → is_neat limit above (own_published (first_open own) lents own) ≡ true
  published_neat limit above own writes lents neat many all some_more =
      neat_out limit above (own_published (first_open own) lents own) (all_out limit above own writes lents neat many all some_more)

  pub published_writes : (limit above : ℕ) (own : List (Own T)) (writes after : List (Option T)) (lents : List (Lent T)) → is_neat limit above own ≡ true
      → length writes ≡ length own → length lents ≡ length (writes_open own writes) → 0 < length lents
      → writes_open (own_published (first_open own) lents own) after ≡ []
  published_writes limit above own writes after lents neat many all some_more =
      writes_out (own_published (first_open own) lents own) after (all_out limit above own writes lents neat many all some_more)

  pub many_published : (s : ℕ) (lents : List (Lent T)) (own : List (Own T)) → length (own_published s lents own) ≡ length own
  many_published s [] own = refl
  many_published s (l ∷ lents) own = many_published (s + 1) lents (map (own_after s (published l)) own) ∙ length-map own (own_after s (published l))
