-- How a new exchange's rule begins, and how the views of seats are cut and joined.
use Rattle.std.proofs.Common.{◌≡◌, ◌≢◌, ℕ, zero, suc, ◌+◌, ◌-◌, ◌⊎◌, inl, inr, ◌==◌, if◌then◌else◌, List, [], ◌∷◌, ◌++◌, map, length, set}
use Rattle.std.proofs.Common.{take, drop, sym, refl, ap, ◌∙◌, subst, arith, length-set}
use Rattle.std.proofs.lemmas.Bool.{eq-eqb, ne_eqb}
use mathlib.Core.Option.{some, some-injective, some-ne-none}
use lib.ListN.{get_elem?}
use Rattle.atomic_table.specs.Table.{Splits, Joins, opening as table_opening}
use Rattle.atomic_table.proofs.Lists.{at_set}
use Rattle.dr_runs.specs.declared.view.View.{View}
use Rattle.dr_runs.specs.Runs.{Exchange}
use Rattle.dr_runs.specs.Seats.{with_pasts, EachPast, Saw, Ruled, pasts_of, fresh_view, first_view, rest_view, both_views, no_view}
use Rattle.dr_runs.proofs.Seats.{StandsAt}

-- a table with one view
one_view : {V : Type 0} (P : ℕ → V → Type 0) (first : V) → P 0 first → (id : ℕ) (v : V) → get_elem? (first ∷ []) id ≡ some v → P id v
one_view P first p zero v at = subst (P 0) (some-injective first v at) p
one_view P first p (suc id) v at = absurd (some-ne-none v (sym at))

-- ends that have not stepped
each_fresh : {E S : Type 0} (P : E → List S → Type 0) (es : List E) → ((j : ℕ) (e : E) → get_elem? es j ≡ some e → P e [])
    → EachPast P es (map (λ e. []) es)
each_fresh P [] all = tt
each_fresh P (e ∷ es) all = (all 0 e refl, each_fresh P es (λ j x at. all (suc j) x at))

-- the first view has all ends, each at a place of its own
pub ruled_fresh : {T C E S W : Type 0} (X : Exchange T C E S W) (es : List E) (index : ℕ → ℕ) (ws : List ℕ) (cs : List C) → X.words_of X.opening ≡ ws
    → X.Lies X.opening (map (λ c. some c) cs) → X.IsMade
    → ((j : ℕ) (e : E) → get_elem? es j ≡ some e → (index (X.ends.number_of e) ≡ j) × X.Stands X.opening e)
    → Ruled X (table_opening ws cs (fresh_view es))
ruled_fresh {E = E} {S = S} X es index ws cs words lies made stand = let view : View E S = fresh_view es in record {
  world = X.opening;
  words = words;
  lies = lies;
  reached = record { made = made; steps = []; entries = []; runs = (refl, refl) };
  place = λ n. (0, index n);
  each_end = one_view (λ id v. (j : ℕ) (e : E) → get_elem? v.ends j ≡ some e → ((0, index (X.ends.number_of e)) ≡ (id, j)) × X.Stands X.opening e) view
      (λ j e at. let t = stand j e at in (ap (λ (m : ℕ). let p : ℕ × ℕ = (0, m) in p) t.0, t.1));
  each_past = one_view (λ id v. EachPast (Saw X []) v.ends v.pasts) view
      (each_fresh (Saw X []) es (λ j e at. record {
        begins = ([], refl);
        entries = [];
        world = X.opening;
        runs = (refl, refl);
        stands = (stand j e at).1;
        stores = refl;
      }));
}

-- a list with one more
pub last_or : {A : Type 0} (l : List A) (a b : A) (j : ℕ) → get_elem? (l ++ a ∷ []) j ≡ some b → (get_elem? l j ≡ some b) ⊎ ((j ≡ length l) × (a ≡ b))
last_or [] a b zero e = inr (refl, some-injective a b e)
last_or [] a b (suc j) e = absurd (some-ne-none b (sym e))
last_or (x ∷ xs) a b zero e = inl e
last_or (x ∷ xs) a b (suc j) e = elim (last_or xs a b j e) [ inl y ↦ inl y | inr t ↦ inr (ap suc t.0, t.1) ]

-- where an end stands, once all but the first of the view `id` have gone to the seat `new`
moved : ℕ → ℕ → ℕ × ℕ → ℕ × ℕ
moved id new p = if p.0 == id then (if p.1 == 0 then p else (new, p.1 - 1)) else p

moved_first : (id new : ℕ) (p : ℕ × ℕ) → p ≡ (id, 0) → moved id new p ≡ (id, 0)
unfolding moved
moved_first id new p e = ap (moved id new) e ∙ rw (eq-eqb id id refl) refl

moved_later : (id new j : ℕ) (p : ℕ × ℕ) → p ≡ (id, suc j) → moved id new p ≡ (new, j)
unfolding moved
moved_later id new j p e = ap (moved id new) e
    ∙ rw (eq-eqb id id refl, ne_eqb (suc j) 0 (λ h. omega arith)) (let s : suc j - 1 ≡ j = omega arith in ap (λ (m : ℕ). let q : ℕ × ℕ = (new, m) in q) s)

moved_other : (id new id' j : ℕ) (p : ℕ × ℕ) → id' ≢ id → p ≡ (id', j) → moved id new p ≡ (id', j)
unfolding moved
moved_other id new id' j p ne e = ap (moved id new) e ∙ rw (ne_eqb id' id ne) refl

first_of_view : {E : Type 0} (v : List E) (j : ℕ) (e : E) → get_elem? (take 1 v) j ≡ some e → (j ≡ 0) × (get_elem? v 0 ≡ some e)
first_of_view [] j e at = absurd (some-ne-none e (sym at))
first_of_view (x ∷ xs) zero e at = (refl, at)
first_of_view (x ∷ xs) (suc j) e at = absurd (some-ne-none e (sym at))

rest_of_view : {E : Type 0} (v : List E) (j : ℕ) (e : E) → get_elem? (drop 1 v) j ≡ some e → get_elem? v (suc j) ≡ some e
rest_of_view [] j e at = absurd (some-ne-none e (sym at))
rest_of_view (x ∷ xs) j e at = at

each_first : {E S : Type 0} (P : E → List S → Type 0) (es : List E) (ps : List (List S)) → EachPast P es ps → EachPast P (take 1 es) (take 1 ps)
each_first P [] [] A = tt
each_first P [] (p ∷ ps) A = absurd A
each_first P (e ∷ es) [] A = absurd A
each_first P (e ∷ es) (p ∷ ps) A = (A.0, tt)

each_rest : {E S : Type 0} (P : E → List S → Type 0) (es : List E) (ps : List (List S)) → EachPast P es ps → EachPast P (drop 1 es) (drop 1 ps)
each_rest P [] [] A = tt
each_rest P [] (p ∷ ps) A = absurd A
each_rest P (e ∷ es) [] A = absurd A
each_rest P (e ∷ es) (p ∷ ps) A = A.1

each_both : {E S : Type 0} (P : E → List S → Type 0) (es fs : List E) (ps qs : List (List S)) → EachPast P es ps → EachPast P fs qs
    → EachPast P (es ++ fs) (ps ++ qs)
each_both P [] fs [] qs A B = B
each_both P [] fs (p ∷ ps) qs A B = absurd A
each_both P (e ∷ es) fs [] qs A B = absurd A
each_both P (e ∷ es) fs (p ∷ ps) qs A B = (A.0, each_both P es fs ps qs A.1 B)

-- each end keeps its past
each_with : {E S : Type 0} (P : E → List S → Type 0) (es : List E) (ps : List (List S)) → EachPast P es ps
    → EachPast P es (map (λ (x : E × List S). x.1) (with_pasts es ps))
each_with P [] ps A = tt
each_with P (e ∷ es) [] A = absurd A
each_with P (e ∷ es) (p ∷ ps) A = (A.0, each_with P es ps A.1)

pub cuts : {T C E S W : Type 0} (X : Exchange T C E S W) (id : ℕ) (v : View E S)
    → Splits (Ruled X) id v (first_view v) (rest_view v)
cuts {E = E} {S = S} X id v s R mine = let new = length s.views in let place' : ℕ → ℕ × ℕ = λ e. moved id new (R.place e) in let w = R.world in
    let left : View E S = first_view v in let right : View E S = rest_view v in
    let P : ℕ → View E S → Type 0 = λ id' u. (j : ℕ) (e : E) → get_elem? u.ends j ≡ some e → StandsAt X place' w id' j e in record {
      world = R.world;
      words = R.words;
      lies = R.lies;
      reached = R.reached;
      place = place';
      each_end = λ id' u at. elim (last_or (set s.views id left) right u id' at) [
        | inl there ↦ elim (at_set s.views id id' left u there) [
          | inl x ↦ subst (P id') x.1 (λ j e in_v. (let f = first_of_view v.ends j e in_v in let t = R.each_end id v mine 0 e f.1 in
              (moved_first id new (R.place (X.ends.number_of e)) t.0 ∙ (λ i. (sym x.0 i, sym f.0 i)), t.1)))
          | inr x ↦ λ j e in_u. (let t = R.each_end id' u x.1 j e in_u in (moved_other id new id' j (R.place (X.ends.number_of e)) x.0 t.0, t.1))
        ]
        | inr x ↦ subst (P id') x.1 (λ j e in_v. (let t = R.each_end id v mine (suc j) e (rest_of_view v.ends j e in_v) in
            (moved_later id new j (R.place (X.ends.number_of e)) t.0 ∙ ap (λ (m : ℕ). let q : ℕ × ℕ = (m, j) in q) (sym (x.0 ∙ length-set s.views id left)), t.1)))
      ];
      each_past = λ id' u at. elim (last_or (set s.views id left) right u id' at) [
        | inl there ↦ elim (at_set s.views id id' left u there) [
          | inl x ↦ subst (λ (y : View E S). EachPast (Saw X R.reached.steps) y.ends y.pasts) x.1 (each_first (Saw X R.reached.steps) v.ends v.pasts (R.each_past id v mine))
          | inr x ↦ R.each_past id' u x.1
        ]
        | inr x ↦ subst (λ (y : View E S). EachPast (Saw X R.reached.steps) y.ends y.pasts) x.1 (each_rest (Saw X R.reached.steps) v.ends v.pasts (R.each_past id v mine))
      ];
    }

-- where an end stands, once the view of `other` has gone behind that of `id`, which had n records
joined : ℕ → ℕ → ℕ → ℕ × ℕ → ℕ × ℕ
joined id n other p = if p.0 == other then (id, n + p.1) else p

joined_other : (id n other j : ℕ) (p : ℕ × ℕ) → p ≡ (other, j) → joined id n other p ≡ (id, n + j)
unfolding joined
joined_other id n other j p e = ap (joined id n other) e ∙ rw (eq-eqb other other refl) refl

joined_else : (id n other id' j : ℕ) (p : ℕ × ℕ) → id' ≢ other → p ≡ (id', j) → joined id n other p ≡ (id', j)
unfolding joined
joined_else id n other id' j p ne e = ap (joined id n other) e ∙ rw (ne_eqb id' other ne) refl

at_both : {E : Type 0} (v w : List E) (j : ℕ) (e : E) → get_elem? (v ++ w) j ≡ some e
    → (get_elem? v j ≡ some e) ⊎ ((i : ℕ) × (j ≡ length v + i) × (get_elem? w i ≡ some e))
at_both [] w j e at = inr (j, omega arith, at)
at_both (x ∷ xs) w zero e at = inl at
at_both (x ∷ xs) w (suc j) e at = elim (at_both xs w j e at) [ inl y ↦ inl y | inr t ↦ (let f = t.1 in inr (t.0, omega arith, t.2)) ]

pub joins : {T C E S W : Type 0} (X : Exchange T C E S W) (id : ℕ) (v : View E S) (other : ℕ) (w : View E S)
    → Joins (Ruled X) id v other w (both_views v w) no_view
joins {E = E} {S = S} X id v other w s R mine apart theirs =
    let was : get_elem? s.views other ≡ some w = elim (at_set s.views id other (both_views v w) w theirs) [ inl x ↦ absurd (apart x.0) | inr x ↦ x.1 ] in
    let none : View E S = no_view in let n = length v.ends in let place' : ℕ → ℕ × ℕ = λ e. joined id n other (R.place e) in
    let wd = R.world in
    let P : ℕ → View E S → Type 0 = λ id' u. (j : ℕ) (e : E) → get_elem? u.ends j ≡ some e → StandsAt X place' wd id' j e in record {
      world = R.world;
      words = R.words;
      lies = R.lies;
      reached = R.reached;
      place = place';
      each_end = λ id' u at. elim (at_set (set s.views id (both_views v w)) other id' none u at) [
        | inl x ↦ subst (P id') x.1 (λ j e no. absurd (some-ne-none e (sym no)))
        | inr x ↦ elim (at_set s.views id id' (both_views v w) u x.1) [
          | inl y ↦ subst (P id') y.1 (λ j e in_both. elim (at_both v.ends w.ends j e in_both) [
            | inl in_v ↦ (let t = R.each_end id v mine j e in_v in
                (joined_else id n other id j (R.place (X.ends.number_of e)) (λ h. apart (sym h)) t.0 ∙ ap (λ (m : ℕ). let q : ℕ × ℕ = (m, j) in q) (sym y.0), t.1))
            | inr z ↦ (let t = R.each_end other w was z.0 e z.2 in
                (joined_other id n other z.0 (R.place (X.ends.number_of e)) t.0 ∙ (λ i. (sym y.0 i, sym z.1 i)), t.1))
          ])
          | inr y ↦ λ j e in_u. (let t = R.each_end id' u y.1 j e in_u in (joined_else id n other id' j (R.place (X.ends.number_of e)) x.0 t.0, t.1))
        ]
      ];
      each_past = λ id' u at. elim (at_set (set s.views id (both_views v w)) other id' none u at) [
        | inl x ↦ subst (λ (y : View E S). EachPast (Saw X R.reached.steps) y.ends y.pasts) x.1 tt
        | inr x ↦ elim (at_set s.views id id' (both_views v w) u x.1) [
          | inl y ↦ subst (λ (z : View E S). EachPast (Saw X R.reached.steps) z.ends z.pasts) y.1
              (let seen = Saw X R.reached.steps in
              each_both seen v.ends w.ends (pasts_of v) (pasts_of w) (each_with seen v.ends v.pasts (R.each_past id v mine))
              (each_with seen w.ends w.pasts (R.each_past other w was)))
          | inr y ↦ R.each_past id' u y.1
        ]
      ];
    }
