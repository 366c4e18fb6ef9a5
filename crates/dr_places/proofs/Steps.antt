-- Each step keeps the rule of the places.
use Rattle.std.proofs.Common.{◌≡◌, ℕ, zero, suc, ◌<◌, List, ◌∷◌, length, get_or, set, replicate, map, eqb, Option, Some, None}
use Rattle.std.proofs.Common.{refl, sym, ◌∙◌, subst, arith, length-set, get_or-set_same, get_or-set_other}
use Rattle.std.proofs.lemmas.List.{length-map, length-replicate}
use mathlib.Core.Logic.{dite}
use mathlib.Core.Option as maybe
use mathlib.Core.Option.{some, none}
use native.Mathlib.Decide.{ℕ_discrete}
use prog.Atomic.{either}
use lib.ListN.{get_elem?}
use Rattle.atomic_table.specs.Table.{State, Me, keeps, takes, gives, Allows, opening}
use Rattle.atomic_table.proofs.Lists.{set_here, set_else, exchanged}
use Rattle.dr_places.specs.Rule.{IsPlace, Keeps}

abbrev zeros : ℕ → List ℕ
zeros n = replicate n 0

zero_word : (n i : ℕ) → get_or (zeros n) i 0 ≡ 0
zero_word zero i = refl
zero_word (suc n) zero = refl
zero_word (suc n) (suc i) = zero_word n i

module _ {L : Type 0} where
  abbrev nones : ℕ → List (Option L)
  nones n = replicate n None

  none_there : (n i : ℕ) → i < n → get_elem? (map some (nones n)) i ≡ some (some None)
  none_there zero i lt = absurd (omega arith)
  none_there (suc n) zero lt = refl
  none_there (suc n) (suc i) lt = none_there n i (omega arith)

  being_taken : (fits : L → Type 0) (o : maybe.Option (maybe.Option (Option L))) → IsPlace fits 1 o
  being_taken fits o = record { empty = λ e. absurd (omega arith); left = λ e. absurd (omega arith) }

module _ {L V : Type 0} (belongs : ℕ → L → Type 0) where
  -- nobody came yet
  pub keeps_new : (n : ℕ) (words : List ℕ) (v : V) → words ≡ zeros n → Keeps belongs (opening words (nones n) v)
  keeps_new n words v are = subst (λ (ws : List ℕ). Keeps belongs (opening ws (nones n) v)) (sym are) (record {
    wide = length-replicate n 0 ∙ sym (length-map (nones n) some ∙ length-replicate n None);
    each = λ i (lt : i < length (map some (nones {L = L} n))). (let many : length (map some (nones {L = L} n)) ≡ n = length-map (nones {L = L} n) some ∙ length-replicate n None in
        record {
          empty = λ _. none_there n i (subst (λ (m : ℕ). i < m) many lt);
          left = λ two. (let none_yet = zero_word n i in absurd (omega arith));
        });
  })

  -- one place changes
  one_other : (s : State (Option L) V) (i x : ℕ) (h : maybe.Option (Option L)) (views : List V) → Keeps belongs s → i < length s.homes
      → IsPlace (belongs i) x (some h)
      → Keeps belongs (record { words = set s.words i x; homes = set s.homes i h; views = views })
  one_other s i x h views K lt here = record {
    wide = length-set s.words i x ∙ K.wide ∙ sym (length-set s.homes i h);
    each = λ j below. (let many = length-set s.homes i h in let wide = K.wide in
        dite (ℕ_discrete j i)
        (λ same. subst (λ (m : ℕ). IsPlace (belongs m) (get_or (set s.words i x) m 0) (get_elem? (set s.homes i h) m)) (sym same)
        (subst (λ (w : ℕ). IsPlace (belongs i) w (get_elem? (set s.homes i h) i)) (sym (get_or-set_same s.words i x 0 (omega arith)))
        (subst (λ (o : maybe.Option (maybe.Option (Option L))). IsPlace (belongs i) x o) (sym (set_here s.homes i h lt)) here)))
        (λ other. subst (λ (w : ℕ). IsPlace (belongs j) w (get_elem? (set s.homes i h) j)) (sym (get_or-set_other s.words i j x 0 other))
        (subst (λ (o : maybe.Option (maybe.Option (Option L))). IsPlace (belongs j) (get_or s.words j 0) o) (sym (set_else s.homes i j h other)) (K.each j (omega arith)))));
  }

  -- a word is written as it is
  same_word : (s : State (Option L) V) (i : ℕ) (views : List V) → Keeps belongs s → i < length s.homes
      → Keeps belongs (record { words = set s.words i (get_or s.words i 0); homes = s.homes; views = views })
  same_word s i views K lt = record {
    wide = length-set s.words i (get_or s.words i 0) ∙ K.wide;
    each = λ j below. (let wide = K.wide in
        subst (λ (w : ℕ). IsPlace (belongs j) w (get_elem? s.homes j))
        (dite (ℕ_discrete j i)
        (λ same. subst (λ (m : ℕ). get_or s.words m 0 ≡ get_or (set s.words i (get_or s.words i 0)) m 0) (sym same) (sym (get_or-set_same s.words i (get_or s.words i 0) 0 (omega arith))))
        (λ other. sym (get_or-set_other s.words i j (get_or s.words i 0) 0 other)))
        (K.each j below));
  }

  -- who finds nobody there takes the slot
  pub takes_place : (n id i : ℕ) (me : Me (Option L) V) → i < n
      → Allows (Keeps belongs) n id me i (λ k. either (eqb k 0) 1 k) (λ k me'. k ≡ 0 → me'.1 ≡ (i, None) ∷ me.1)
  takes_place n id i me lt s K len _ _ =
      let found : ℕ = get_or s.words i 0 in let below : i < length s.homes = omega arith in
      dite (ℕ_discrete found 0)
      (λ nobody. (
        me.0,
        takes i None,
        (K.each i below).empty nobody,
        exchanged found 0 1 (λ (x : ℕ). Keeps belongs (record { words = set s.words i x; homes = set s.homes i none; views = set s.views id me.0 }))
            (λ _. one_other s i 1 none (set s.views id me.0) K below (being_taken (belongs i) (some none))) (λ other. absurd (other nobody)),
        λ _. refl,
      ))
      (λ somebody. (
        me.0,
        keeps,
        tt,
        exchanged found 0 1 (λ (x : ℕ). Keeps belongs (record { words = set s.words i x; homes = s.homes; views = set s.views id me.0 }))
            (λ none_there. absurd (somebody none_there)) (λ _. same_word s i (set s.views id me.0) K below),
        λ none_there. absurd (somebody none_there),
      ))

  -- what was put there lies there
  pub leaves_it : (n id i : ℕ) (me : Me (Option L) V) (v : V) (l : L) (more : List (ℕ × Option L)) → me ≡ (v, (i, Some l) ∷ more) → i < n → belongs i l
      → Allows (Keeps belongs) n id me i (λ _. 2) (λ _ _. Unit {0})
  leaves_it n id i me v l more is lt fits = subst (λ (m : Me (Option L) V). Allows (Keeps belongs) n id m i (λ _. 2) (λ _ _. Unit {0})) (sym is)
      (λ s K len _ _. (
        v,
        gives,
        tt,
        one_other s i 2 (some (Some l)) (set s.views id v) K (omega arith) (record { empty = λ e. absurd (omega arith); left = λ _. (l, refl, fits) }),
        tt,
      ))
