-- While a seat stands for an end, the ring goes on, and its ends keep the rule.
use Rattle.std.proofs.Common.{◌≡◌, ℕ, inl, inr, List, [], ◌∷◌, ◌++◌, length, set, take, drop, sym, refl, ap, ◌∙◌, subst, arith}
use Rattle.atomic_table.specs.Table.{Allows, Splits, Joins}
use Rattle.atomic_table.proofs.Lists.{at_set, at_snoc}
use Rattle.dr_runs.specs.declared.view.View.{View}
use Rattle.dr_runs.specs.Runs.{Exchange}
use Rattle.dr_runs.specs.Seats.{Sitting, Ruled, first_view, rest_view, both_views, no_view}
use Rattle.dr_runs.proofs.Cuts.{cuts, joins}
use Rattle.dr_lent.specs.Over.{RuledOrOver}
use Rattle.dr_lent.proofs.Leaving.{leaves}

pub some_end_of : {E : Type 0} (e : E) (es : List E) → e ∷ es ≡ [] → ⊥
some_end_of e es is = let n = ap length is in absurd (omega arith)

module _ {T C E S W : Type 0} (X : Exchange T C E S W) where
  -- a step of a seat that stands for some end
  pub goes_on : (slots id : ℕ) (me : Sitting C E S) (i : ℕ) (f : ℕ → ℕ) (then : ℕ → Sitting C E S → Type 0) → (me.0.ends ≡ [] → ⊥)
      → Allows (Ruled X) slots id me i f then → Allows (RuledOrOver X) slots id me i f then
  goes_on slots id me i f then some_end A s R len at small = elim R [
    | inl kept ↦ (let a = A s kept len at small in (a.0, a.1, a.2, inl a.3, a.4))
    | inr over ↦ absurd (some_end (over id me.0 at))
  ]

  -- a view is cut
  splits_on : (id : ℕ) (v left right : View E S) → (v.ends ≡ [] → (left.ends ≡ []) × (right.ends ≡ [])) → Splits (Ruled X) id v left right
      → Splits (RuledOrOver X) id v left right
  splits_on id v left right empty A s R mine = elim R [
    | inl kept ↦ inl (A s kept mine)
    | inr over ↦ (let none = empty (over id v mine) in inr (λ seat view at. elim (at_snoc (set s.views id left) right view seat at) [
      | inl there ↦ elim (at_set s.views id seat left view there) [
        | inl x ↦ subst (λ (u : View E S). u.ends ≡ []) x.1 none.0
        | inr x ↦ over seat view x.1
      ]
      | inr new ↦ subst (λ (u : View E S). u.ends ≡ []) new none.1
    ]))
  ]

  -- a view's first record stays, and the others go
  pub cut_on : (id : ℕ) (v : View E S) → Splits (RuledOrOver X) id v (first_view v) (rest_view v)
  cut_on id v = splits_on id v (first_view v) (rest_view v) (λ none. (ap (take 1) none, ap (drop 1) none)) (cuts X id v)

  -- a view leaves its seat, and comes to another
  pub leave_on : (id : ℕ) (v : View E S) → Splits (RuledOrOver X) id v no_view v
  leave_on id v = splits_on id v no_view v (λ none. (refl, none)) (leaves X id v)

  pub join_on : (id : ℕ) (v : View E S) (other : ℕ) (w : View E S) → Joins (RuledOrOver X) id v other w (both_views v w) no_view
  join_on id v other w s R mine apart theirs = elim R [
    | inl kept ↦ inl (joins X id v other w s kept mine apart theirs)
    | inr over ↦ (
        let was : w.ends ≡ [] = elim (at_set s.views id other (both_views v w) w theirs) [ inl x ↦ absurd (apart x.0) | inr x ↦ over other w x.1 ] in
        let both : (both_views v w).ends ≡ [] = ap (λ (es : List E). es ++ w.ends) (over id v mine) ∙ was in
        inr (λ seat view at. elim (at_set (set s.views id (both_views v w)) other seat no_view view at) [
          | inl x ↦ ap (λ (u : View E S). u.ends) (sym x.1)
          | inr x ↦ elim (at_set s.views id seat (both_views v w) view x.1) [
            | inl y ↦ subst (λ (u : View E S). u.ends ≡ []) y.1 both
            | inr y ↦ over seat view y.1
          ]
        ]))
  ]
