-- What looks at words come to.
use Rattle.std.proofs.Common.{◌≡◌, ◌≢◌, ℕ, zero, suc, ◌+◌, ◌<◌, ◌≤◌, inl, inr, ◌==◌, if◌then◌else◌, List, [], ◌∷◌, ◌++◌, length, get_or, set, take}
use Rattle.std.proofs.Common.{sym, refl, ap, ◌∙◌, subst, arith, get_or-set_same, get_or-set_other}
use Rattle.std.proofs.lemmas.Bool.{cases_eq, eq-eqb, ne_eqb}
use mathlib.Core.Option.{some}
use lib.ListN.{get_elem?}
use Rattle.atomic_table.proofs.Lists.{at_snoc}
use Rattle.dr_runs.specs.declared.look.Look.{Look}
use Rattle.dr_runs.specs.Looks.{look, last_look, looks_at, IsPast, ArePast}

-- a word that is not the one stored stays, and a word that rises keeps what was seen of it
pub past_set : (rising : ℕ) (words : List ℕ) (i n : ℕ) (looks : List Look) → i < length words → (i < rising → get_or words i 0 ≤ n)
    → ArePast rising words looks → ArePast rising (set words i n) looks
past_set rising words i n looks lt rises all j x at = let d = all j x at in
    elim (cases_eq x.word i) [
      | inl e ↦ record {
        rises = d.rises;
        before = subst (λ (m : ℕ). x.value ≤ get_or (set words i n) m 0) (sym e)
            (rw (get_or-set_same words i n 0 lt)
            (let b : x.value ≤ get_or words i 0 = subst (λ (m : ℕ). x.value ≤ get_or words m 0) e d.before in
            let c : i < rising = subst (λ (m : ℕ). m < rising) e d.rises in
            let r = rises c in omega arith));
      }
      | inr ne ↦ record { rises = d.rises; before = rw (get_or-set_other words i x.word n 0 ne) d.before }
    ]

pub past_more : (rising : ℕ) (words : List ℕ) (i n : ℕ) (looks : List Look) → i < rising → n ≤ get_or words i 0 → ArePast rising words looks
    → ArePast rising words (looks ++ look i n ∷ [])
past_more rising words i n looks lt le all j x at =
    elim (at_snoc looks (look i n) x j at) [
      | inl old ↦ all j x old
      | inr new ↦ subst (IsPast rising words) new (record { rises = lt; before = le })
    ]

-- the last look is not above its word, where none is
pub last_look_below : (words : List ℕ) (d : ℕ) (looks : List Look) (word : ℕ) → d ≤ get_or words word 0
    → ((i : ℕ) (x : Look) → get_elem? looks i ≡ some x → x.value ≤ get_or words x.word 0) → last_look d looks word ≤ get_or words word 0
last_look_below words d [] word le all = le
last_look_below words d (x ∷ xs) word le all =
    last_look_below words (if x.word == word then x.value else d) xs word
    (elim (cases_eq x.word word) [
      | inl e ↦ rw (eq-eqb x.word word e) (subst (λ (m : ℕ). x.value ≤ get_or words m 0) e (all 0 x refl))
      | inr ne ↦ rw (ne_eqb x.word word ne) le
    ])
    (λ i y at. all (suc i) y at)

pub last_look_le : (rising : ℕ) (words : List ℕ) (d : ℕ) (looks : List Look) (word : ℕ) → d ≤ get_or words word 0 → ArePast rising words looks
    → last_look d looks word ≤ get_or words word 0
last_look_le rising words d looks word le all = last_look_below words d looks word le (λ i x at. (all i x at).before)

pub last_look_more : (d : ℕ) (looks : List Look) (i v : ℕ) → last_look d (looks ++ look i v ∷ []) i ≡ v
last_look_more d [] i v = rw (eq-eqb i i refl) refl
last_look_more d (x ∷ xs) i v = last_look_more (if x.word == i then x.value else d) xs i v

pub last_look_else : (d : ℕ) (looks : List Look) (i j v : ℕ) → i ≢ j → last_look d (looks ++ look i v ∷ []) j ≡ last_look d looks j
last_look_else d [] i j v ne = rw (ne_eqb i j ne) refl
last_look_else d (x ∷ xs) i j v ne = last_look_else (if x.word == j then x.value else d) xs i j v ne

pub last_rises : (d : ℕ) (xs : List Look) (i v w : ℕ) → last_look d xs i ≤ v → last_look d xs w ≤ last_look d (xs ++ look i v ∷ []) w
last_rises d xs i v w le =
    elim (cases_eq i w) [
      | inl e ↦ (let a : last_look d (xs ++ look i v ∷ []) w ≡ v = ap (λ (j : ℕ). last_look d (xs ++ look i v ∷ []) j) (sym e) ∙ last_look_more d xs i v in let b : last_look d xs w ≡ last_look d xs i = ap (last_look d xs) (sym e) in omega arith)
      | inr ne ↦ (let a : last_look d (xs ++ look i v ∷ []) w ≡ last_look d xs w = last_look_else d xs i w v ne in omega arith)
    ]

-- what a look at one word leaves of the last looks at another that it raised to n or more
pub last_least : (d : ℕ) (xs : List Look) (i v w n : ℕ) → n ≤ last_look d xs w → n ≤ v → n ≤ last_look d (xs ++ look i v ∷ []) w
last_least d xs i v w n le high =
    elim (cases_eq i w) [
      | inl e ↦ (let a : last_look d (xs ++ look i v ∷ []) w ≡ v = ap (λ (j : ℕ). last_look d (xs ++ look i v ∷ []) j) (sym e) ∙ last_look_more d xs i v in omega arith)
      | inr ne ↦ (let a : last_look d (xs ++ look i v ∷ []) w ≡ last_look d xs w = last_look_else d xs i w v ne in omega arith)
    ]

-- one look more
pub looks_more : (word_of : ℕ → ℕ) (ups counts : List ℕ) (i v : ℕ) → length counts ≡ i → i < length ups
    → looks_at word_of (take (i + 1) ups) (counts ++ v ∷ []) ≡ looks_at word_of (take i ups) counts ++ look (word_of (get_or ups i 0)) v ∷ []
looks_more word_of [] counts i v e lt = absurd (omega arith)
looks_more word_of (u ∷ ups) [] zero v e lt = refl
looks_more word_of (u ∷ ups) [] (suc i) v e lt = absurd (omega arith)
looks_more word_of (u ∷ ups) (n ∷ counts) zero v e lt = absurd (omega arith)
looks_more word_of (u ∷ ups) (n ∷ counts) (suc i) v e lt =
    let at : suc i + 1 ≡ suc (i + 1) = omega arith in
    ap (λ (j : ℕ). looks_at word_of (take j (u ∷ ups)) (n ∷ (counts ++ v ∷ []))) at ∙ ap (λ (xs : List Look). look (word_of u) n ∷ xs) (looks_more word_of ups counts i v (omega arith) (omega arith))

-- counts of fewer handlers
pub looks_few : (word_of : ℕ → ℕ) (hs counts : List ℕ) (i : ℕ) → length counts ≡ i → looks_at word_of (take i hs) counts ≡ looks_at word_of hs counts
looks_few word_of [] counts zero e = refl
looks_few word_of [] counts (suc i) e = refl
looks_few word_of (h ∷ hs) [] zero e = refl
looks_few word_of (h ∷ hs) [] (suc i) e = absurd (omega arith)
looks_few word_of (h ∷ hs) (n ∷ counts) zero e = absurd (omega arith)
looks_few word_of (h ∷ hs) (n ∷ counts) (suc i) e = ap (λ (xs : List Look). look (word_of h) n ∷ xs) (looks_few word_of hs counts i (omega arith))

-- no looks
pub no_looks_at : (word_of : ℕ → ℕ) (hs : List ℕ) → looks_at word_of hs [] ≡ []
no_looks_at word_of [] = refl
no_looks_at word_of (h ∷ hs) = refl
