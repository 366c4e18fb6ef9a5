-- A sender's own sequences, of which all are published but one stretch behind them.
use Rattle.std.proofs.Common.{◌≡◌, ◌<◌, ◌≤◌, ◌+◌, ◌-◌, ℕ, zero, suc, max, Bool, true, false, ◌==◌, if◌then◌else◌, List, [], ◌∷◌, ◌++◌, length, set, replicate, Option, None, Some, inl, inr, refl, sym, ap, subst, ◌∙◌, arith}
use Rattle.std.specs.Prelude.{◌&&◌, not, nat_le, nat_lt}
use Rattle.std.specs.List.{cons_option}
use Rattle.std.proofs.lemmas.Bool.{and_from, and_parts, cases_Bool, cases_eq, eq-eqb, eqb-true, le-leb, leb-true, lt-ltb, ltb-true, ne_eqb, not-true}
use Rattle.std.proofs.lemmas.List.{append-nil, length-replicate}
use mathlib.Core.Option.{some, some-injective, some-ne-none}
use lib.ListN.{get_elem?}
use Rattle.dr_plain_senders.specs.declared.record.Own.{Own}
use Rattle.dr_plain_senders.specs.declared.record.Stage.{Stage}
use Rattle.dr_plain_senders.specs.Meaning.Records.{fresh_own, is_published}
use Rattle.dr_plain_senders.specs.Calls.Writing.{written_where}
use Rattle.dr_plain_senders.specs.Meaning.Moments.{event_of}
use Rattle.dr_plain_senders.specs.Calls.InPlace.{events_in, first_open, is_neat, is_stretch, writes_open}

-- what a claim of sequences adds

fresh_run : (T : Type 0) (limit p s n : ℕ) → s + n ≤ limit → is_stretch limit s (fresh_own {T = T} p s n) ≡ true
fresh_run T limit p s zero fits = refl
fresh_run T limit p s (suc n) fits =
    and_from ((s == s) && true) (nat_lt s limit && is_stretch limit (suc s) (fresh_own {T = T} p (suc s) n)) (and_from (s == s) true (eq-eqb s s refl) refl)
    (and_from (nat_lt s limit) (is_stretch limit (suc s) (fresh_own {T = T} p (suc s) n)) (lt-ltb s limit (omega arith)) (fresh_run T limit p (suc s) n (omega arith)))

pub many_fresh : (T : Type 0) (p s n : ℕ) → length (fresh_own {T = T} p s n) ≡ n
many_fresh T p s zero = refl
many_fresh T p s (suc n) = ap suc (many_fresh T p (suc s) n)

module _ {T : Type 0} where
  abbrev pub is_out : Own T → Bool
  is_out o = is_published o.stage

  -- what a stretch is made of

  pub record Heads (limit s : ℕ) (o : Own T) (own : List (Own T)) : Type 0 where
    pub at : o.sequence ≡ s
    pub open_still : is_out o ≡ false
    pub low : s < limit
    pub rest : is_stretch limit (suc s) own ≡ true

  pub heads : (limit s : ℕ) (o : Own T) (own : List (Own T)) → is_stretch limit s (o ∷ own) ≡ true → Heads limit s o own
  heads limit s o own is =
      let (front, back) = and_parts ((o.sequence == s) && not (is_out o)) (nat_lt s limit && is_stretch limit (suc s) own) is in
      let (place, unpublished) = and_parts (o.sequence == s) (not (is_out o)) front in
      let (below, rest) = and_parts (nat_lt s limit) (is_stretch limit (suc s) own) back in
      record {
        at = eqb-true o.sequence s place;
        open_still = not-true (is_out o) unpublished;
        low = ltb-true s limit below;
        rest = rest;
      }

  -- all that is written of a stretch is of what is open
  pub whole_stretch : (limit s : ℕ) (own : List (Own T)) (writes : List (Option T)) → is_stretch limit s own ≡ true → length writes ≡ length own
      → writes_open own writes ≡ writes
  whole_stretch limit s [] [] is many = refl
  whole_stretch limit s [] (w ∷ writes) is many = absurd (omega arith)
  whole_stretch limit s (o ∷ own) [] is many = absurd (omega arith)
  whole_stretch limit s (o ∷ own) (w ∷ writes) is many =
      let h = heads limit s o own is in
      let less : length writes ≡ length own = omega arith in
      rw h.open_still (ap (λ l. w ∷ l) (whole_stretch limit (suc s) own writes h.rest less))

  -- it has each of its sequences, not published
  stretch_has : (limit f s : ℕ) (own : List (Own T)) → is_stretch limit f own ≡ true → f ≤ s → s < f + length own
      → (i : ℕ) × (o : Own T) × (get_elem? own i ≡ some o) × (o.sequence ≡ s) × (is_out o ≡ false) × (s < limit)
  stretch_has limit f s [] is low high = absurd (omega arith)
  stretch_has limit f s (o ∷ own) is low high =
      let h = heads limit f o own is in
      elim (cases_eq f s) [
        | inl here ↦ (let below = h.low in (zero, o, refl, h.at ∙ here, h.open_still, omega arith))
        | inr later ↦
            let r = stretch_has limit (suc f) s own h.rest (omega arith) (omega arith) in
            (suc r.0, r.1, r.2, r.3, r.4, r.5)
      ]

  -- each has its place
  stretch_at : (limit f j : ℕ) (own : List (Own T)) (o : Own T) → is_stretch limit f own ≡ true → get_elem? own j ≡ some o
      → (o.sequence ≡ f + j) × (is_out o ≡ false)
  stretch_at limit f j [] o is at = absurd (some-ne-none o (sym at))
  stretch_at limit f zero (x ∷ own) o is at =
      let h = heads limit f x own is in
      let same : x ≡ o = some-injective x o at in
      let place : x.sequence ≡ f = h.at in
      (ap (λ (y : Own T). y.sequence) (sym same) ∙ (let e : x.sequence ≡ f + 0 = omega arith in e), ap is_out (sym same) ∙ h.open_still)
  stretch_at limit f (suc j) (x ∷ own) o is at =
      let r = stretch_at limit (suc f) j own o (heads limit f x own is).rest at in
      let place = r.0 in
      ((let e : o.sequence ≡ f + suc j = omega arith in e), r.1)

  -- what is written there
  stretch_written : (limit f s : ℕ) (v : Option T) (own : List (Own T)) (writes : List (Option T)) → is_stretch limit f own ≡ true → length writes ≡ length own
      → f ≤ s → written_where (λ q. q == s) v own writes ≡ set writes (s - f) v
  stretch_written limit f s v [] [] is many low = refl
  stretch_written limit f s v [] (w ∷ writes) is many low = absurd (omega arith)
  stretch_written limit f s v (o ∷ own) [] is many low = absurd (omega arith)
  stretch_written limit f s v (o ∷ own) (w ∷ writes) is many low =
      let h = heads limit f o own is in
      let place = h.at in
      let less : length writes ≡ length own = omega arith in
      elim (cases_eq f s) [
        | inl here ↦
            let zero_is : s - f ≡ zero = omega arith in
            rw (eq-eqb o.sequence s (place ∙ here), zero_is) (ap (λ l. v ∷ l) (untouched limit (suc f) s v own writes h.rest less (omega arith)))
        | inr later ↦
            let next : s - f ≡ suc (s - suc f) = omega arith in
            rw (ne_eqb o.sequence s (λ e. later (sym place ∙ e)), next)
            (ap (λ l. w ∷ l) (stretch_written limit (suc f) s v own writes h.rest less (omega arith)))
      ]
    where
      untouched : (limit f s : ℕ) (v : Option T) (own : List (Own T)) (writes : List (Option T)) → is_stretch limit f own ≡ true → length writes ≡ length own
          → s < f → written_where (λ q. q == s) v own writes ≡ writes
      untouched limit f s v [] [] is many above = refl
      untouched limit f s v [] (w ∷ writes) is many above = absurd (omega arith)
      untouched limit f s v (o ∷ own) [] is many above = absurd (omega arith)
      untouched limit f s v (o ∷ own) (w ∷ writes) is many above =
          let h = heads limit f o own is in
          let place = h.at in
          let less : length writes ≡ length own = omega arith in
          rw (ne_eqb o.sequence s (λ e. omega arith)) (ap (λ l. w ∷ l) (untouched limit (suc f) s v own writes h.rest less (omega arith)))

  -- What is neat.

  pub record Still (limit above : ℕ) (o : Own T) (own : List (Own T)) : Type 0 where
    pub above_is : above ≤ o.sequence
    pub stretch : is_stretch limit o.sequence (o ∷ own) ≡ true
    pub first : first_open (o ∷ own) ≡ o.sequence

  pub still_open : (limit above : ℕ) (o : Own T) (own : List (Own T)) → is_out o ≡ false → is_neat limit above (o ∷ own) ≡ true → Still limit above o own
  still_open limit above o own still neat =
      let (low, run) = and_parts (nat_le above o.sequence) (is_stretch limit o.sequence (o ∷ own))
      (subst (λ (b : Bool). (if b then is_neat limit (max above (suc o.sequence)) own else (nat_le above o.sequence && is_stretch limit o.sequence (o ∷ own))) ≡ true) still neat) in
      record { above_is = leb-true above o.sequence low; stretch = run; first = rw still refl }

  -- what is open is above what is not
  pub above_open : (limit above : ℕ) (own : List (Own T)) (writes : List (Option T)) → is_neat limit above own ≡ true → length writes ≡ length own
      → 0 < length (writes_open own writes) → above ≤ first_open own
  above_open limit above [] writes neat many some_open = absurd (omega arith)
  above_open limit above (o ∷ own) [] neat many some_open = absurd (omega arith)
  above_open limit above (o ∷ own) (w ∷ writes) neat many some_open =
      elim (cases_Bool (is_out o)) [
        | inl out ↦
            let r = above_open limit (max above (suc o.sequence)) own writes (rw out at neat) (omega arith) (rw out at some_open) in
            let first : first_open (o ∷ own) ≡ first_open own = rw out refl in omega arith
        | inr still ↦ let h = still_open limit above o own still neat in let low = h.above_is in let first = h.first in omega arith
      ]

  -- each open sequence is there, and is nowhere published
  pub open_has : (limit above s : ℕ) (own : List (Own T)) (writes : List (Option T)) → is_neat limit above own ≡ true → length writes ≡ length own
      → first_open own ≤ s → s < first_open own + length (writes_open own writes)
      → (t : Stage T) × ((i : ℕ) × (get_elem? own i ≡ some record { sequence = s; stage = t })) × (is_published t ≡ false) × (s < limit)
  open_has limit above s [] writes neat many low high = absurd (omega arith)
  open_has limit above s (o ∷ own) [] neat many low high = absurd (omega arith)
  open_has limit above s (o ∷ own) (w ∷ writes) neat many low high =
      elim (cases_Bool (is_out o)) [
        | inl out ↦
            let r = open_has limit (max above (suc o.sequence)) s own writes (rw out at neat) (omega arith) (rw out at low) (rw out at high) in
            (r.0, (suc r.1.0, r.1.1), r.2, r.3)
        | inr still ↦
            let h = still_open limit above o own still neat in
            let first = h.first in
            let long : length (writes_open (o ∷ own) (w ∷ writes)) ≡ length (o ∷ own) = ap length (whole_stretch limit o.sequence (o ∷ own) (w ∷ writes) h.stretch many) ∙ many in
            let (i, x, at, place, closed, below) = stretch_has limit o.sequence s (o ∷ own) h.stretch (omega arith) (omega arith) in
            (x.stage, (i, at ∙ (λ j. some record { sequence = place j; stage = x.stage })), closed, below)
      ]

  pub open_once : (limit above s : ℕ) (own : List (Own T)) (writes : List (Option T)) → is_neat limit above own ≡ true → length writes ≡ length own
      → first_open own ≤ s → s < first_open own + length (writes_open own writes)
      → (j : ℕ) (t : Stage T) → get_elem? own j ≡ some record { sequence = s; stage = t } → is_published t ≡ false
  open_once limit above s [] writes neat many low high j t at = absurd (some-ne-none _ (sym at))
  open_once limit above s (o ∷ own) [] neat many low high j t at = absurd (omega arith)
  open_once limit above s (o ∷ own) (w ∷ writes) neat many low high zero t at =
      elim (cases_Bool (is_out o)) [
        | inl out ↦
            let low_is : first_open own ≤ s = rw out at low in
            let high_is : s < first_open own + length (writes_open own writes) = rw out at high in
            let place = above_open limit (max above (suc o.sequence)) own writes (rw out at neat) (omega arith) (omega arith) in
            let same : o.sequence ≡ s = ap (λ (x : Own T). x.sequence) (some-injective o (record { sequence = s; stage = t }) at) in absurd (omega arith)
        | inr still ↦ (stretch_at limit o.sequence 0 (o ∷ own) (record { sequence = s; stage = t }) (still_open limit above o own still neat).stretch at).1
      ]
  open_once limit above s (o ∷ own) (w ∷ writes) neat many low high (suc j) t at =
      elim (cases_Bool (is_out o)) [
        | inl out ↦ open_once limit (max above (suc o.sequence)) s own writes (rw out at neat) (omega arith) (rw out at low) (rw out at high) j t at
        | inr still ↦ (stretch_at limit o.sequence (suc j) (o ∷ own) (record { sequence = s; stage = t }) (still_open limit above o own still neat).stretch at).1
      ]

  -- and what is written of it
  pub open_write : (limit above s : ℕ) (own : List (Own T)) (writes : List (Option T)) → is_neat limit above own ≡ true → length writes ≡ length own
      → first_open own ≤ s → s < first_open own + length (writes_open own writes)
      → (j : ℕ) (t : Stage T) (v : Option T) → get_elem? own j ≡ some record { sequence = s; stage = t } → get_elem? writes j ≡ some v
      → get_elem? (writes_open own writes) (s - first_open own) ≡ some v
  open_write limit above s [] writes neat many low high j t v at there = absurd (some-ne-none _ (sym at))
  open_write limit above s (o ∷ own) [] neat many low high j t v at there = absurd (omega arith)
  open_write limit above s (o ∷ own) (w ∷ writes) neat many low high zero t v at there =
      elim (cases_Bool (is_out o)) [
        | inl out ↦
            let low_is : first_open own ≤ s = rw out at low in
            let high_is : s < first_open own + length (writes_open own writes) = rw out at high in
            let place = above_open limit (max above (suc o.sequence)) own writes (rw out at neat) (omega arith) (omega arith) in
            let same : o.sequence ≡ s = ap (λ (x : Own T). x.sequence) (some-injective o (record { sequence = s; stage = t }) at) in absurd (omega arith)
        | inr still ↦
            let h = still_open limit above o own still neat in
            let first = h.first in
            let place = (stretch_at limit o.sequence 0 (o ∷ own) (record { sequence = s; stage = t }) h.stretch at).0 in
            let index : s - first_open (o ∷ own) ≡ 0 = omega arith in
            ap (λ l. get_elem? l (s - first_open (o ∷ own))) (whole_stretch limit o.sequence (o ∷ own) (w ∷ writes) h.stretch many)
            ∙ ap (λ n. get_elem? (w ∷ writes) n) index ∙ there
      ]
  open_write limit above s (o ∷ own) (w ∷ writes) neat many low high (suc j) t v at there =
      elim (cases_Bool (is_out o)) [
        | inl out ↦
            rw out (open_write limit (max above (suc o.sequence)) s own writes (rw out at neat) (omega arith) (rw out at low) (rw out at high) j t v at there)
        | inr still ↦
            let h = still_open limit above o own still neat in
            let first = h.first in
            let place = (stretch_at limit o.sequence (suc j) (o ∷ own) (record { sequence = s; stage = t }) h.stretch at).0 in
            let index : s - first_open (o ∷ own) ≡ (suc j) = omega arith in
            ap (λ l. get_elem? l (s - first_open (o ∷ own))) (whole_stretch limit o.sequence (o ∷ own) (w ∷ writes) h.stretch many)
            ∙ ap (λ n. get_elem? (w ∷ writes) n) index ∙ there
      ]

  -- A write.

  pub many_where : (such : ℕ → Bool) (v : Option T) (own : List (Own T)) (writes : List (Option T)) → length writes ≡ length own
      → length (written_where such v own writes) ≡ length own
  many_where such v [] writes many = refl
  many_where such v (o ∷ own) [] many = absurd (omega arith)
  many_where such v (o ∷ own) (w ∷ writes) many = ap suc (many_where such v own writes (omega arith))

  pub written_open : (limit above s : ℕ) (v : Option T) (own : List (Own T)) (writes : List (Option T)) → is_neat limit above own ≡ true
      → length writes ≡ length own → first_open own ≤ s
      → writes_open own (written_where (λ q. q == s) v own writes) ≡ set (writes_open own writes) (s - first_open own) v
  written_open limit above s v [] writes neat many low = refl
  written_open limit above s v (o ∷ own) [] neat many low = absurd (omega arith)
  written_open limit above s v (o ∷ own) (w ∷ writes) neat many low =
      elim (cases_Bool (is_out o)) [
        | inl out ↦ rw out (written_open limit (max above (suc o.sequence)) s v own writes (rw out at neat) (omega arith) (rw out at low))
        | inr still ↦
            let h = still_open limit above o own still neat in
            let first = h.first in
            let whole = whole_stretch limit o.sequence (o ∷ own) (w ∷ writes) h.stretch many in
            let written = many_where (λ q. q == s) v (o ∷ own) (w ∷ writes) many in
            whole_stretch limit o.sequence (o ∷ own) (written_where (λ q. q == s) v (o ∷ own) (w ∷ writes)) h.stretch written
            ∙ stretch_written limit o.sequence s v (o ∷ own) (w ∷ writes) h.stretch many (omega arith)
            ∙ ap (λ l. set l (s - o.sequence) v) (sym whole) ∙ ap (λ n. set (writes_open (o ∷ own) (w ∷ writes)) (s - n) v) (sym first)
      ]

  -- A claim.

  events_both : (xs ys : List (Own T)) → events_in (xs ++ ys) ≡ events_in xs ++ events_in ys
  events_both [] ys = refl
  events_both (x ∷ xs) ys = ap (cons_option (event_of x.stage)) (events_both xs ys) ∙ before (event_of x.stage) (events_in xs) (events_in ys)
    where
      before : (e : Option T) (l m : List T) → cons_option e (l ++ m) ≡ cons_option e l ++ m
      before None l m = refl
      before (Some x) l m = refl

  fresh_writes : (p s n : ℕ) → writes_open (fresh_own {T = T} p s n) (replicate {A = Option T} n None) ≡ replicate n None
  fresh_writes p s n =
      whole_stretch (s + n) s (fresh_own {T = T} p s n) (replicate {A = Option T} n None) (fresh_run T (s + n) p s n (omega arith))
      (length-replicate {A = Option T} n None ∙ sym (many_fresh T p s n))

  fresh_events : (p s n : ℕ) → events_in (fresh_own {T = T} p s n) ≡ []
  fresh_events p s zero = refl
  fresh_events p s (suc n) = fresh_events p (suc s) n

  abbrev pub AreBelow : ℕ → List (Own T) → Type 0
  AreBelow lo own = (i : ℕ) (o : Own T) → get_elem? own i ≡ some o → o.sequence < lo

  pub claimed_neat : (limit above p lo n : ℕ) (own : List (Own T)) (writes : List (Option T)) → length writes ≡ length own → writes_open own writes ≡ []
      → AreBelow lo own → above ≤ lo → lo + n ≤ limit → is_neat limit above (own ++ fresh_own p lo n) ≡ true
  claimed_neat limit above p lo zero [] writes many closed below low fits = refl
  claimed_neat limit above p lo (suc n) [] writes many closed below low fits =
      and_from (nat_le above lo) (is_stretch limit lo (fresh_own {T = T} p lo (suc n))) (le-leb above lo low) (fresh_run T limit p lo (suc n) fits)
  claimed_neat limit above p lo n (o ∷ own) [] many closed below low fits = absurd (omega arith)
  claimed_neat limit above p lo n (o ∷ own) (w ∷ writes) many closed below low fits =
      let first = below 0 o refl in
      elim (cases_Bool (is_out o)) [
        | inl out ↦
            rw out (claimed_neat limit (max above (suc o.sequence)) p lo n own writes (omega arith) (rw out at closed) (λ i x at. below (suc i) x at) (omega arith) fits)
        | inr still ↦ absurd (let long : length (w ∷ writes_open own writes) ≡ 0 = ap length (rw still at closed) in omega arith)
      ]

  pub claimed_first : (p lo n : ℕ) (own : List (Own T)) (writes : List (Option T)) → length writes ≡ length own → writes_open own writes ≡ [] → 0 < n
      → first_open (own ++ fresh_own p lo n) ≡ lo
  claimed_first p lo zero [] writes many closed some_more = absurd (omega arith)
  claimed_first p lo (suc n) [] writes many closed some_more = refl
  claimed_first p lo n (o ∷ own) [] many closed some_more = absurd (omega arith)
  claimed_first p lo n (o ∷ own) (w ∷ writes) many closed some_more =
      elim (cases_Bool (is_out o)) [
        | inl out ↦ rw out (claimed_first p lo n own writes (omega arith) (rw out at closed) some_more)
        | inr still ↦ absurd (let long : length (w ∷ writes_open own writes) ≡ 0 = ap length (rw still at closed) in omega arith)
      ]

  pub claimed_writes : (p lo n : ℕ) (own : List (Own T)) (writes : List (Option T)) → length writes ≡ length own → writes_open own writes ≡ []
      → writes_open (own ++ fresh_own p lo n) (writes ++ replicate n None) ≡ replicate n None
  claimed_writes p lo n [] [] many closed = fresh_writes p lo n
  claimed_writes p lo n [] (w ∷ writes) many closed = absurd (omega arith)
  claimed_writes p lo n (o ∷ own) [] many closed = absurd (omega arith)
  claimed_writes p lo n (o ∷ own) (w ∷ writes) many closed =
      elim (cases_Bool (is_out o)) [
        | inl out ↦ rw out (claimed_writes p lo n own writes (omega arith) (rw out at closed))
        | inr still ↦ absurd (let long : length (w ∷ writes_open own writes) ≡ 0 = ap length (rw still at closed) in omega arith)
      ]

  pub claimed_events : (p lo n : ℕ) (own : List (Own T)) → events_in (own ++ fresh_own p lo n) ≡ events_in own
  claimed_events p lo n own = events_both own (fresh_own {T = T} p lo n) ∙ ap (λ l. events_in own ++ l) (fresh_events p lo n) ∙ append-nil (events_in own)
