-- What looks at counts find, one after another.
use Rattle.std.proofs.Common.{◌≡◌, ◌≢◌, ℕ, suc, ◌<◌, Bool, ◌==◌, if◌then◌else◌, List, [], ◌∷◌, ◌++◌, map, length, get_or, refl, ap, ◌∙◌, arith}
use Rattle.std.specs.Prelude.{Contains}
use Rattle.std.specs.List.{AllPairs}
use Rattle.std.specs.List.Sorted.{IsStrictlyIncreasing}
use Rattle.std.proofs.lemmas.Bool.{eq-eqb, ne_eqb}
use Rattle.std.proofs.lemmas.List.Kept.{AllPairs-from_increasing}
use Rattle.dr_runs.specs.declared.look.Look.{Look}
use Rattle.dr_runs.specs.Looks.{last_look, offered_by, looks_at}

-- no number stands in a list twice
AreDistinct : List ℕ → Type 0
AreDistinct [] = Unit {0}
AreDistinct (u ∷ us) = ((g : ℕ) → Contains us g → u ≢ g) × AreDistinct us

distinct_of : (us : List ℕ) → AllPairs (λ x y. x < y) us → AreDistinct us
unfolding AreDistinct
distinct_of [] all = tt
distinct_of (u ∷ us) all = (
  λ g has e. (let inside = has.1 in let lt : u < get_or us has.0 g = all 0 (suc has.0) g (omega arith) (omega arith) in let at = has.2 in omega arith),
  distinct_of us (λ i j d lt inside. all (suc i) (suc j) d (omega arith) (omega arith)),
)

last_look_both : (d : ℕ) (xs ys : List Look) (word : ℕ) → last_look d (xs ++ ys) word ≡ last_look (last_look d xs word) ys word
last_look_both d [] ys word = refl
last_look_both d (x ∷ xs) ys word = last_look_both (if x.word == word then x.value else d) xs ys word

-- where there is a count, nothing else offers anything
pub offered_same : (a b : ℕ) (counts : List ℕ) → 0 < length counts → offered_by a counts ≡ offered_by b counts
offered_same a b [] lt = absurd (omega arith)
offered_same a b (n ∷ counts) lt = refl

-- each handler's count lies in a word of its own
module _ (word_of : ℕ → ℕ) (own : (g u : ℕ) → u ≢ g → word_of g ≢ word_of u) where
  -- the counts of other handlers
  not_looked : (d : ℕ) (us counts : List ℕ) (w : ℕ) → ((g : ℕ) → Contains us g → word_of g ≢ w) → last_look d (looks_at word_of us counts) w ≡ d
  not_looked d [] counts w others = refl
  not_looked d (u ∷ us) [] w others = refl
  not_looked d (u ∷ us) (n ∷ counts) w others =
      ap (λ (b : Bool). last_look (if b then n else d) (looks_at word_of us counts) w) (ne_eqb (word_of u) w (others u (0, omega arith, refl)))
      ∙ not_looked d us counts w (λ g has. others g (suc has.0, (let inside = has.1 in omega arith), has.2))

  seen_from : (d : ℕ → ℕ) (us counts : List ℕ) → AreDistinct us → length counts ≡ length us
      → map (λ u. last_look (d u) (looks_at word_of us counts) (word_of u)) us ≡ counts
  unfolding AreDistinct
  seen_from d [] [] apart e = refl
  seen_from d [] (n ∷ counts) apart e = absurd (omega arith)
  seen_from d (u ∷ us) [] apart e = absurd (omega arith)
  seen_from d (u ∷ us) (n ∷ counts) apart e =
      let head : last_look (if word_of u == word_of u then n else d u) (looks_at word_of us counts) (word_of u) ≡ n =
      ap (λ (b : Bool). last_look (if b then n else d u) (looks_at word_of us counts) (word_of u)) (eq-eqb (word_of u) (word_of u) refl)
      ∙ not_looked n us counts (word_of u) (λ g has. own g u (apart.0 g has)) in
      let tail : map (λ g. last_look (if word_of u == word_of g then n else d g) (looks_at word_of us counts) (word_of g)) us ≡ counts =
      seen_from (λ g. if word_of u == word_of g then n else d g) us counts apart.1 (omega arith) in
      λ i. head i ∷ tail i

  -- each of some handlers' counts was seen last as it was found
  pub seen_counts : (looks : List Look) (us counts : List ℕ) → IsStrictlyIncreasing us → length counts ≡ length us
      → map (λ u. last_look 0 (looks ++ looks_at word_of us counts) (word_of u)) us ≡ counts
  seen_counts looks us counts rising e =
      (λ i. map (λ u. last_look_both 0 looks (looks_at word_of us counts) (word_of u) i) us)
      ∙ seen_from (λ u. last_look 0 looks (word_of u)) us counts (distinct_of us (AllPairs-from_increasing us rising)) e
