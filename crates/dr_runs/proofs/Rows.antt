-- Which slots stand in a stretch of one lane, and in rows of several.
use Rattle.std.proofs.Common.{◌≡◌, ◌≢◌, ◌⊎◌, ℕ, zero, suc, ◌+◌, ◌<◌, inl, inr, List, [], ◌∷◌, ◌++◌, length, replicate, sym, refl, ap, ◌∙◌, arith}
use Rattle.std.proofs.lemmas.List.{length-replicate}
use mathlib.Core.Option.{some, some-injective, some-ne-none}
use lib.ListN.{get_elem?}
use Rattle.atomic_table.proofs.Lists.{at_longer}
use Rattle.dr_runs.specs.Stretches.{stretch, rows}
use Rattle.dr_runs.proofs.Lists.{at_behind}
use Rattle.dr_runs.proofs.Stretches.{Apart, apart_of, apart_both, at_either}

module _ {A : Type 0} where
  at_within : (ls : List A) (i : ℕ) (a : A) → get_elem? ls i ≡ some a → i < length ls
  at_within [] i a at = absurd (some-ne-none a (sym at))
  at_within (x ∷ xs) zero a at = omega arith
  at_within (x ∷ xs) (suc i) a at = let lt = at_within xs i a at in omega arith

  pub at_replicate : (n i : ℕ) (a b : A) → get_elem? (replicate n a) i ≡ some b → a ≡ b
  at_replicate zero i a b at = absurd (some-ne-none b (sym at))
  at_replicate (suc n) zero a b at = some-injective a b at
  at_replicate (suc n) (suc i) a b at = at_replicate n i a b at

  pub replicate_at : (n i : ℕ) (a : A) → i < n → get_elem? (replicate n a) i ≡ some a
  replicate_at zero i a lt = absurd (omega arith)
  replicate_at (suc n) zero a lt = refl
  replicate_at (suc n) (suc i) a lt = replicate_at n i a (omega arith)

module _ {A X : Type 0} where
  pub at_stretch : (place : ℕ → A → X) (s : ℕ) (ls : List A) (i : ℕ) (x : X) → get_elem? (stretch place s ls) i ≡ some x
      → (a : A) × (get_elem? ls i ≡ some a) × (place (s + i) a ≡ x)
  at_stretch place s [] i x at = absurd (some-ne-none x (sym at))
  at_stretch place s (a ∷ ls) zero x at = let e : s + 0 ≡ s = omega arith in
      (a, refl, ap (λ (n : ℕ). place n a) e ∙ some-injective (place s a) x at)
  at_stretch place s (a ∷ ls) (suc i) x at = let t = at_stretch place (s + 1) ls i x at in let e : s + suc i ≡ s + 1 + i = omega arith in
      (t.0, t.1, ap (λ (n : ℕ). place n t.0) e ∙ t.2)

  pub stretch_at : (place : ℕ → A → X) (s : ℕ) (ls : List A) (i : ℕ) (a : A) → get_elem? ls i ≡ some a → get_elem? (stretch place s ls) i ≡ some (place (s + i) a)
  stretch_at place s [] i a at = absurd (some-ne-none a (sym at))
  stretch_at place s (b ∷ ls) zero a at = let e : s ≡ s + 0 = omega arith in
      ap (λ (c : A). some (place s c)) (some-injective b a at) ∙ ap (λ (n : ℕ). some (place n a)) e
  stretch_at place s (b ∷ ls) (suc i) a at = let e : s + 1 + i ≡ s + suc i = omega arith in
      stretch_at place (s + 1) ls i a at ∙ ap (λ (n : ℕ). some (place n a)) e

  pub length_stretch : (place : ℕ → A → X) (s : ℕ) (ls : List A) → length (stretch place s ls) ≡ length ls
  length_stretch place s [] = refl
  length_stretch place s (a ∷ ls) = ap suc (length_stretch place (s + 1) ls)

  pub stretch_both : (place : ℕ → A → X) (s : ℕ) (ls bs : List A) → stretch place s (ls ++ bs) ≡ stretch place s ls ++ stretch place (s + length ls) bs
  stretch_both place s [] bs = let e : s ≡ s + 0 = omega arith in ap (λ (n : ℕ). stretch place n bs) e
  stretch_both place s (a ∷ ls) bs = let e : s + 1 + length ls ≡ s + suc (length ls) = omega arith in
      ap (λ (xs : List X). place s a ∷ xs) (stretch_both place (s + 1) ls bs ∙ ap (λ (n : ℕ). stretch place (s + 1) ls ++ stretch place n bs) e)

  at_row : (place : ℕ → ℕ → A → X) (n s : ℕ) (a : A) (h : ℕ) (x : X) → get_elem? (stretch (λ h b. place h s b) 0 (replicate n a)) h ≡ some x
      → (h < n) × (place h s a ≡ x)
  at_row place n s a h x at =
      let t = at_stretch (λ h b. place h s b) 0 (replicate n a) h x at in let lt = at_within (replicate n a) h t.0 t.1 in let len = length-replicate n a in
      let e : h ≡ 0 + h = omega arith in
      (omega arith, ap (λ (g : ℕ). place g s a) e ∙ ap (λ (b : A). place (0 + h) s b) (at_replicate n h a t.0 t.1) ∙ t.2)

  -- what stands in rows is of one of their lanes and sequences
  pub at_rows : (place : ℕ → ℕ → A → X) (n s : ℕ) (ls : List A) (j : ℕ) (x : X) → get_elem? (rows place n s ls) j ≡ some x
      → (h : ℕ) × (i : ℕ) × (a : A) × (h < n) × (get_elem? ls i ≡ some a) × (place h (s + i) a ≡ x)
  at_rows place n s [] j x at = absurd (some-ne-none x (sym at))
  at_rows place n s (a ∷ ls) j x at =
      elim (at_either (stretch (λ h b. place h s b) 0 (replicate n a)) (rows place n (s + 1) ls) j x at) [
        | inl t ↦ (let r = at_row place n s a t.0 x t.1 in let e : s + 0 ≡ s = omega arith in
            (t.0, 0, a, r.0, refl, ap (λ (m : ℕ). place t.0 m a) e ∙ r.1))
        | inr t ↦ (let r = at_rows place n (s + 1) ls t.0 x t.1 in let e : s + suc r.1 ≡ s + 1 + r.1 = omega arith in
            (r.0, suc r.1, r.2, r.3, r.4, ap (λ (m : ℕ). place r.0 m r.2) e ∙ r.5))
      ]

  -- and each of these stands there
  pub rows_at : (place : ℕ → ℕ → A → X) (n s : ℕ) (ls : List A) (h i : ℕ) (a : A) → h < n → get_elem? ls i ≡ some a
      → (j : ℕ) × (get_elem? (rows place n s ls) j ≡ some (place h (s + i) a))
  rows_at place n s [] h i a lt at = absurd (some-ne-none a (sym at))
  rows_at place n s (b ∷ ls) h zero a lt at =
      let row = stretch (λ h b. place h s b) 0 (replicate n b) in let e : 0 + h ≡ h = omega arith in let f : s ≡ s + 0 = omega arith in (
        h,
        at_longer row (rows place n (s + 1) ls) h (place h (s + 0) a)
            (stretch_at (λ h b. place h s b) 0 (replicate n b) h a (replicate_at n h b lt ∙ ap (λ (c : A). some c) (some-injective b a at))
            ∙ ap (λ (g : ℕ). some (place g s a)) e ∙ ap (λ (m : ℕ). some (place h m a)) f),
      )
  rows_at place n s (b ∷ ls) h (suc i) a lt at =
      let row = stretch (λ h b. place h s b) 0 (replicate n b) in let t = rows_at place n (s + 1) ls h i a lt at in let e : s + 1 + i ≡ s + suc i = omega arith in
      (length row + t.0, at_behind row (rows place n (s + 1) ls) t.0 (place h (s + suc i) a) (t.1 ∙ ap (λ (m : ℕ). some (place h m a)) e))

module _ {A C : Type 0} where
  pub apart_stretch : (place : ℕ → A → ℕ × C) (s : ℕ) (ls : List A)
      → ((i j : ℕ) (a b : A) → i < j → j < length ls → (place (s + j) b).0 ≢ (place (s + i) a).0) → Apart (stretch place s ls)
  apart_stretch place s ls all = apart_of (stretch place s ls) (λ i j x y lt a b. (let u = at_stretch place s ls i x a in let v = at_stretch place s ls j y b in
      λ (e : y.0 ≡ x.0). all i j u.0 v.0 lt (at_within ls j v.0 v.1) (ap (λ (z : ℕ × C). z.0) v.2 ∙ e ∙ ap (λ (z : ℕ × C). z.0) (sym u.2))))

  -- the first n lanes have slots of their own for m sequences from s on
  abbrev pub AreDistinct : (ℕ → ℕ → A → ℕ × C) → ℕ → ℕ → ℕ → Type 0
  AreDistinct place n s m = (h g i j : ℕ) (a b : A) → h < n → g < n → i < m → j < m → (h ≢ g) ⊎ (i ≢ j) → (place h (s + i) a).0 ≢ (place g (s + j) b).0

  pub apart_rows : (place : ℕ → ℕ → A → ℕ × C) (n s : ℕ) (ls : List A) → AreDistinct place n s (length ls) → Apart (rows place n s ls)
  apart_rows place n s [] all = tt
  apart_rows place n s (a ∷ ls) all =
      let row = stretch (λ h b. place h s b) 0 (replicate n a) in let f : s + 0 ≡ s = omega arith in
      let fst : ℕ × C → ℕ = λ z. z.0 in
      apart_both row (rows place n (s + 1) ls)
      (apart_of row (λ h g x y lt p q. (let u = at_row place n s a h x p in let v = at_row place n s a g y q in
      λ (e : y.0 ≡ x.0). all g h 0 0 a a v.0 u.0 (omega arith) (omega arith) (inl (λ (z : g ≡ h). omega arith))
      (ap (λ (m : ℕ). fst (place g m a)) f ∙ ap fst v.1 ∙ e ∙ ap fst (sym u.1) ∙ ap (λ (m : ℕ). fst (place h m a)) (sym f)))))
      (apart_rows place n (s + 1) ls (λ h g i j b c lh lg li lj ne. (let p : s + suc i ≡ s + 1 + i = omega arith in let q : s + suc j ≡ s + 1 + j = omega arith in
      λ (e : fst (place h (s + 1 + i) b) ≡ fst (place g (s + 1 + j) c)). all h g (suc i) (suc j) b c lh lg (omega arith) (omega arith)
      (elim ne [ inl z ↦ inl z | inr z ↦ inr (λ (r : suc i ≡ suc j). z (omega arith)) ])
      (ap (λ (m : ℕ). fst (place h m b)) p ∙ e ∙ ap (λ (m : ℕ). fst (place g m c)) (sym q)))))
      (λ h x p j y q. (let u = at_row place n s a h x p in let v = at_rows place n (s + 1) ls j y q in let i = v.1 in let lt = at_within ls v.1 v.2 v.4 in
      let g : s + suc i ≡ s + 1 + i = omega arith in
      λ (e : y.0 ≡ x.0). all v.0 h (suc v.1) 0 v.2 a v.3 u.0 (omega arith) (omega arith) (inr (λ (r : suc i ≡ 0). omega arith))
      (ap (λ (m : ℕ). fst (place v.0 m v.2)) g ∙ ap fst v.5 ∙ e ∙ ap fst (sym u.1) ∙ ap (λ (m : ℕ). fst (place h m a)) (sym f))))
