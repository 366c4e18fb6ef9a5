-- Which receivers of a ring were told that it drained, before and after one of them changes.
use Rattle.std.proofs.Common.{◌≡◌, ◌⊎◌, ℕ, inl, inr, Bool, true, List, [], ◌∷◌, set, sym, ap, ◌∙◌, subst}
use Rattle.std.specs.Prelude.{Contains}
use Rattle.std.proofs.lemmas.Bool.{cases_eq}
use Rattle.std.proofs.lemmas.List.Elements.{Contains-append_left, Contains-append_right}
use mathlib.Core.Option.{some, some-injective}
use lib.ListN.{get_elem?}
use Rattle.atomic_table.proofs.Lists.{set_here, set_else}
use Rattle.dr_meaning.specs.Meaning.Transcript.{Transcript}
use Rattle.dr_runs.specs.Entries.{told_drained}
use Rattle.dr_runs.specs.Runs.{Runs}
use Rattle.dr_runs.proofs.Elements.{at_below}

module _ {R : Type 0} (told : R → Bool) where
  -- the receiver at a place was told so
  abbrev pub WasTold : List R → ℕ → Type 0
  WasTold rs h = (r : R) × (get_elem? rs h ≡ some r) × (told r ≡ true)

  -- none changes
  pub all_stay : (rs us : List R) (h : ℕ) → us ≡ rs → WasTold us h → WasTold rs h
  all_stay rs us h same now = (now.0, subst (λ (xs : List R). get_elem? xs h ≡ some now.0) same now.1, now.2)

  -- one changes, and is told so at most by this
  pub one_hears : (rs us : List R) (g h : ℕ) (q q' : R) (By : Type 0) → get_elem? rs g ≡ some q → us ≡ set rs g q'
      → (told q' ≡ true → (told q ≡ true) ⊎ By) → WasTold us h → WasTold rs h ⊎ (h ≡ g) × By
  one_hears rs us g h q q' By at are hears now =
      let r = now.0 in let there : get_elem? (set rs g q') h ≡ some r = subst (λ (xs : List R). get_elem? xs h ≡ some r) are now.1 in
      elim (cases_eq h g) [
        | inl same ↦ (let is : q' ≡ r = some-injective q' r (sym (set_here rs g q' (at_below rs g q at)) ∙ subst (λ (j : ℕ). get_elem? (set rs g q') j ≡ some r) same there) in
            elim (hears (ap told is ∙ now.2)) [
              | inl before ↦ inl (q, subst (λ (j : ℕ). get_elem? rs j ≡ some q) (sym same) at, before)
              | inr tells ↦ inr (same, tells)
            ])
        | inr ne ↦ inl (r, sym (set_else rs g h q' ne) ∙ there, now.2)
      ]

  -- one changes, and is told nothing
  pub none_hears : (rs us : List R) (g h : ℕ) (q q' : R) → get_elem? rs g ≡ some q → us ≡ set rs g q' → told q' ≡ told q → WasTold us h → WasTold rs h
  none_hears rs us g h q q' at are same now =
      elim (one_hears rs us g h q q' ⊥ at are (λ yes_told. inl (sym same ∙ yes_told)) now) [
        | inl before ↦ before
        | inr never ↦ absurd never.1
      ]

-- Over a run each receiver that was told so was told so before, or by an entry of the run, if each step is so.
module _ {T S W R : Type 0} (Happens : S → W → W → Type 0) (entries_of : S → W → Transcript T) (receivers : W → List R) (told : R → Bool)
    (step : (s : S) (w u : W) (h : ℕ) → Happens s w u → WasTold told (receivers u) h → WasTold told (receivers w) h ⊎ Contains (entries_of s w) (told_drained h)) where
  pub told_runs : (steps : List S) (es : Transcript T) (w u : W) (h : ℕ) → Runs Happens entries_of steps es w u → WasTold told (receivers u) h
      → WasTold told (receivers w) h ⊎ Contains es (told_drained h)
  told_runs [] es w u h R now = inl (subst (λ (x : W). WasTold told (receivers x) h) (sym R.1) now)
  told_runs (s ∷ steps) es w u h R now =
      let here = entries_of s w in let told_by : Transcript T → Type 0 = λ xs. Contains xs (told_drained h) in
      elim (told_runs steps R.1 R.0 u h R.4 now) [
        | inl between ↦ (elim (step s w R.0 h R.2 between) [
          | inl before ↦ inl before
          | inr tells ↦ inr (subst told_by (sym R.3) (Contains-append_left here R.1 (told_drained h) tells))
        ])
        | inr tells ↦ inr (subst told_by (sym R.3) (Contains-append_right here R.1 (told_drained h) tells))
      ]
