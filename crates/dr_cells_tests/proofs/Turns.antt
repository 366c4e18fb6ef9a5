-- Each step of a turn keeps the table's rule.
use Rattle.std.proofs.Common.{◌≡◌, ℕ, zero, suc, List, [], ◌∷◌, ◌++◌, refl, sym, ap, ap₂, ◌∙◌, subst, arith, ⊎_elim}
use Rattle.std.specs.Prelude.{slice_set, slice_index}
use mathlib.Core.Logic.{dite}
use mathlib.Core.Option.{Option, none, some, some-injective, some-ne-none}
use native.Mathlib.Decide.{ℕ_discrete}
use lib.ListN.{get_elem?}
use Rattle.atomic_table.specs.Table.{State, Me, keeps, takes, gives, Allows, Splits, Final, opening, rest}
use Rattle.atomic_table.proofs.Lists.{set_again, at_snoc}
use Rattle.dr_cells.specs.declared.cells.Cells.{Cells}
use Rattle.dr_cells.specs.declared.token.Token.{Token}
use Rattle.dr_cells_tests.specs.Turns.{Holds, Taken, Waits, IsFirst}

abbrev Home : Type 0 → Type 0
Home X = Option (Token X)

module _ {X : Type 0} where
  alone : (c : Cells X) (k : ℕ) (v : Cells X) → get_elem? (c ∷ []) k ≡ some v → v ≡ c
  alone c zero v e = sym (some-injective c v e)
  alone c (suc k) v e = absurd (some-ne-none v (sym e))

  pub opens_well : (c : Cells X) (t : Token X) → IsFirst c t → Holds c (opening (1 ∷ []) (t ∷ []) c)
  opens_well c t is = record { word = 1; home = some t; one_word = refl; one_home = refl; lies = λ e. (t, refl, is); views = alone c }

  module _ (c : Cells X) (s : State (Token X) (Cells X)) (h : Holds c s) (id : ℕ) (at : get_elem? s.views id ≡ some c) where
    same_views : (k : ℕ) (v : Cells X) → get_elem? (slice_set s.views id c) k ≡ some v → v ≡ c
    same_views k v e = h.views k v (subst (λ (vs : List (Cells X)). get_elem? vs k ≡ some v) (set_again s.views id c at) e)

    -- the word is w, the slot is as told, and the seat knows what it knew
    stands : (w : ℕ) (home : Home X) (homes : List (Home X)) → homes ≡ home ∷ [] → (w ≡ 1 → (t : Token X) × (home ≡ some t) × IsFirst c t)
        → Holds c record { words = slice_set s.words 0 w; homes = homes; views = slice_set s.views id c }
    stands w home homes one lies =
        let one_word : slice_set s.words 0 w ≡ w ∷ [] = ap (λ (ws : List ℕ). slice_set ws 0 w) h.one_word in
        record { word = w; home = home; one_word = one_word; one_home = one; lies = lies; views = same_views }

  takes_it : (c : Cells X) (n id : ℕ) → Allows (Holds c) n id (c, []) 0 (λ _. 0) (λ found after. (after.0 ≡ c) × Taken c found after.1)
  takes_it c n id s h deep at low =
      let found : slice_index s.words 0 ≡ h.word = ap (λ (ws : List ℕ). slice_index ws 0) h.one_word in
      dite (ℕ_discrete h.word 1)
      (λ one. let l = h.lies one in let there : s.homes ≡ some l.0 ∷ [] = h.one_home ∙ ap (λ (x : Home X). x ∷ []) l.1 in
      let left : slice_set s.homes 0 none ≡ none ∷ [] = ap (λ (hs : List (Home X)). slice_set hs 0 none) there in
      let told : Taken c (slice_index s.words 0) ((0, l.0) ∷ []) = ((λ e. (l.0, refl, l.2)), (λ other. absurd (other (found ∙ one)))) in
      (c, takes 0 l.0, ap (λ (hs : List (Home X)). get_elem? hs 0) there, stands c s h id at 0 none _ left (λ e. absurd (omega arith)), (refl, told)))
      (λ other. let told : Taken c (slice_index s.words 0) [] = ((λ e. absurd (other (sym found ∙ e))), (λ ne. refl)) in
      (c, keeps, tt, stands c s h id at 0 h.home s.homes h.one_home (λ e. absurd (omega arith)), (refl, told)))

  pub may_take : (c : Cells X) (n id : ℕ) (me : Me (Token X) (Cells X)) → Waits c me
      → Allows (Holds c) n id me 0 (λ _. 0) (λ found after. (after.0 ≡ me.0) × Taken me.0 found after.1)
  may_take c n id me waits =
      subst (λ (m : Me (Token X) (Cells X)). Allows (Holds c) n id m 0 (λ _. 0) (λ found after. (after.0 ≡ m.0) × Taken m.0 found after.1)) (sym waits)
      (takes_it c n id)

  gives_it : (c : Cells X) (n id : ℕ) (t : Token X) → IsFirst c t → Allows (Holds c) n id (c, (0, t) ∷ []) 0 (λ _. 1) (λ _ after. Waits c after)
  gives_it c n id t is s h deep at low =
      let back : slice_set s.homes 0 (some t) ≡ some t ∷ [] = ap (λ (hs : List (Home X)). slice_set hs 0 (some t)) h.one_home in
      (c, gives, tt, stands c s h id at 1 (some t) _ back (λ e. (t, refl, is)), refl)

  -- what the seat has in hand was put there in place of what it took
  pub may_give : (c : Cells X) (n id : ℕ) (me before : Me (Token X) (Cells X)) (t : Token X) → me ≡ (before.0, (0, t) ∷ rest before.1)
      → before.0 ≡ c → rest before.1 ≡ [] → IsFirst c t → Allows (Holds c) n id me 0 (λ _. 1) (λ _ after. Waits me.0 after)
  may_give c n id me before t has knows alone is =
      let hand : me ≡ (c, (0, t) ∷ []) = has ∙ ap₂ (λ (v : Cells X) (xs : List (ℕ × Token X)). (v, (0, t) ∷ xs)) knows alone in
      subst (λ (m : Me (Token X) (Cells X)). Allows (Holds c) n id m 0 (λ _. 1) (λ _ after. Waits m.0 after)) (sym hand) (gives_it c n id t is)

  splits_it : (c : Cells X) (id : ℕ) → Splits (Holds c) id c c c
  splits_it c id s h at =
      let views : (k : ℕ) (v : Cells X) → get_elem? (slice_set s.views id c ++ c ∷ []) k ≡ some v → v ≡ c =
      λ k v e. ⊎_elim (same_views c s h id at k v) (λ last. sym last) (at_snoc (slice_set s.views id c) c v k e) in
      record { word = h.word; home = h.home; one_word = h.one_word; one_home = h.one_home; lies = h.lies; views = views }

  pub may_split : (c : Cells X) (id : ℕ) (v : Cells X) → v ≡ c → Splits (Holds c) id v v v
  may_split c id v e = subst (λ (w : Cells X). Splits (Holds c) id w w w) (sym e) (splits_it c id)

  at_home : (c : Cells X) (s : State (Token X) (Cells X)) (h : Holds c s) (t : Token X) → h.home ≡ some t → get_elem? s.homes 0 ≡ some (some t)
  at_home c s h t is = ap (λ (hs : List (Home X)). get_elem? hs 0) (h.one_home ∙ ap (λ (x : Home X). x ∷ []) is)

  -- where the word is 1 at the end, the token is the first cell's
  pub comes_back : (c : Cells X) (ws : List ℕ) (ts : List (Token X)) (w : ℕ) (t : Token X) → Final (Holds c) ws ts
      → get_elem? ws 0 ≡ some w → get_elem? ts 0 ≡ some t → w ≡ 1 → IsFirst c t
  comes_back c ws ts w t final word token one =
      let h = final.1 in let read : some h.word ≡ some w = sym (ap (λ (xs : List ℕ). get_elem? xs 0) (sym final.2 ∙ h.one_word)) ∙ word in
      let l = h.lies (some-injective h.word w read ∙ one) in
      subst (IsFirst c) (some-injective l.0 t (sym (final.4 0 l.0 (at_home c final.0 h l.0 l.1)) ∙ token)) l.2
