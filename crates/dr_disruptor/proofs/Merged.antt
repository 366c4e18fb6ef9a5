-- The published events are a merge of what each sender published.
use Rattle.std.proofs.Common.{◌≡◌, ℕ, zero, suc, ◌+◌, ◌<◌, inl, inr, ◌==◌, Bool, List, [], ◌∷◌, length, map, Option, Some, refl, sym, ap, ◌∙◌, arith}
use Rattle.std.specs.Prelude.{filter, slice_get, slice_index_or}
use Rattle.std.specs.List.{range_with_len, filter_map, cons_option}
use Rattle.std.proofs.lemmas.Bool.{cases_Bool}
use Rattle.std.proofs.lemmas.List.{length-map}
use mathlib.Core.Option.{some, some-injective, some-ne-none}
use lib.ListN.{get_elem?}
use Rattle.dr_workers.specs.Meaning.Merge.{IsMerge, at_part}
use Rattle.dr_runs.proofs.Elements.{there, value_at}
use Rattle.dr_plain_senders.specs.declared.record.Stage.{Stage}
use Rattle.dr_plain_senders.specs.Meaning.Moments.{stage_at}
use Rattle.dr_plain_senders.specs.Meaning.Records.{fresh_stage}
use Rattle.dr_disruptor.proofs.Owned.{own_from}
use Rattle.dr_disruptor.proofs.Shown.{shown, shown_in}

module _ {T : Type 0} (blank : T) where
  -- values and a test, at the places from a number on, that are those of some stages
  abbrev AreThere : ℕ → (ℕ → Option T) → (ℕ → Bool) → ℕ → List (Stage T) → Type 0
  AreThere p f q s ts = (i : ℕ) (t : Stage T) → get_elem? ts i ≡ some t → (f (s + i) ≡ Some (shown blank t)) × (q (s + i) ≡ (t.owner == p))

  picked_from : (p : ℕ) (f : ℕ → Option T) (q : ℕ → Bool) (s : ℕ) (ts : List (Stage T)) → AreThere p f q s ts
      → filter_map f (filter q (range_with_len s (length ts))) ≡ shown_in blank (own_from s p ts)
  picked_from p f q s [] are = refl
  picked_from p f q s (t ∷ ts) are =
      let z : s + 0 ≡ s = omega arith in
      let first = are 0 t refl in
      let test : q s ≡ (t.owner == p) = ap q (sym z) ∙ first.1 in
      let value : f s ≡ Some (shown blank t) = ap f (sym z) ∙ first.0 in
      let one : suc s ≡ s + 1 = omega arith in
      let next = picked_from p f q (suc s) ts (λ i x at.
      let same : suc s + i ≡ s + suc i = omega arith in
      let is = are (suc i) x at in (ap f same ∙ is.0, ap q same ∙ is.1)) in
      let rest : filter_map f (filter q (range_with_len (s + 1) (length ts))) ≡ shown_in blank (own_from (suc s) p ts) =
      ap (λ (z : ℕ). filter_map f (filter q (range_with_len z (length ts)))) (sym one) ∙ next in
      elim (cases_Bool (t.owner == p)) [
        | inl y ↦ rw (test, y)
            (ap (λ (o : Option T). cons_option o (filter_map f (filter q (range_with_len (s + 1) (length ts))))) value
            ∙ ap (λ (l : List T). shown blank t ∷ l) rest)
        | inr n ↦ rw (test, n) rest
      ]

  taken_at : (ts : List (Stage T)) (i : ℕ) (t : Stage T) → get_elem? ts i ≡ some t → slice_get (map (shown blank) ts) i ≡ Some (shown blank t)
  taken_at [] i t at = absurd (some-ne-none t (sym at))
  taken_at (x ∷ ts) zero t at = ap (λ (u : Stage T). Some (shown blank u)) (some-injective x t at)
  taken_at (x ∷ ts) (suc i) t at = taken_at ts i t at

  abbrev owner_at : List (Stage T) → ℕ → ℕ
  owner_at ts s = (stage_at ts s).owner

  picked : (p : ℕ) (ts : List (Stage T)) → at_part (map (shown blank) ts) (owner_at ts) p ≡ shown_in blank (own_from 0 p ts)
  picked p ts =
      let many : length (map (shown blank) ts) ≡ length ts = length-map ts (shown blank) in
      ap (λ (n : ℕ). filter_map (slice_get (map (shown blank) ts)) (filter (λ s. owner_at ts s == p) (range_with_len 0 n))) many
      ∙ picked_from p (slice_get (map (shown blank) ts)) (λ s. owner_at ts s == p) 0 ts (λ i t at.
      let z : 0 + i ≡ i = omega arith in (
        ap (slice_get (map (shown blank) ts)) z ∙ taken_at ts i t at,
        ap (λ (j : ℕ). owner_at ts j == p) z ∙ ap (λ (u : Stage T). u.owner == p) (value_at ts i t (fresh_stage 0) at),
      ))

  pub merged : (lists : List (List T)) (ts : List (Stage T)) → ((s : ℕ) (t : Stage T) → get_elem? ts s ≡ some t → t.owner < length lists)
      → ((p : ℕ) → p < length lists → slice_index_or lists p [] ≡ shown_in blank (own_from 0 p ts)) → IsMerge lists (map (shown blank) ts)
  merged lists ts owned each = record {
    part = owner_at ts;
    within = λ s inside.
        let many : length (map (shown blank) ts) ≡ length ts = length-map ts (shown blank) in
        let t = there ts s (omega arith) in
        let low = owned s t.0 t.1 in
        let is : owner_at ts s ≡ t.0.owner = ap (λ (u : Stage T). u.owner) (value_at ts s t.0 (fresh_stage 0) t.1) in omega arith;
    each = λ p inside. each p inside ∙ sym (picked p ts);
  }
