-- A view leaves its seat for a new one. The slots in hand stay with the old seat, which stands for no end any more.
use Rattle.std.proofs.Common.{◌≡◌, ◌≢◌, ℕ, inl, inr, ◌==◌, if◌then◌else◌, length, set, sym, refl, ap, ◌∙◌, subst}
use Rattle.std.proofs.Common.{length-set}
use Rattle.std.proofs.lemmas.Bool.{eq-eqb, ne_eqb}
use mathlib.Core.Option.{some, some-ne-none}
use lib.ListN.{get_elem?}
use Rattle.atomic_table.specs.Table.{Splits}
use Rattle.atomic_table.proofs.Lists.{at_set}
use Rattle.dr_runs.specs.declared.view.View.{View}
use Rattle.dr_runs.specs.Runs.{Exchange}
use Rattle.dr_runs.specs.Seats.{EachPast, Saw, Ruled, no_view}
use Rattle.dr_runs.proofs.Cuts.{last_or}
use Rattle.dr_runs.proofs.Seats.{StandsAt}

-- where an end stands, once the view `id` has gone to the seat `new`
left : ℕ → ℕ → ℕ × ℕ → ℕ × ℕ
left id new p = if p.0 == id then (new, p.1) else p

left_own : (id new j : ℕ) (p : ℕ × ℕ) → p ≡ (id, j) → left id new p ≡ (new, j)
unfolding left
left_own id new j p e = ap (left id new) e ∙ rw (eq-eqb id id refl) refl

left_other : (id new id' j : ℕ) (p : ℕ × ℕ) → id' ≢ id → p ≡ (id', j) → left id new p ≡ (id', j)
unfolding left
left_other id new id' j p ne e = ap (left id new) e ∙ rw (ne_eqb id' id ne) refl

pub leaves : {T C E S W : Type 0} (X : Exchange T C E S W) (id : ℕ) (v : View E S) → Splits (Ruled X) id v no_view v
leaves {E = E} {S = S} X id v s R mine = let new = length s.views in let place' : ℕ → ℕ × ℕ = λ e. left id new (R.place e) in let w = R.world in
    let none : View E S = no_view in
    let P : ℕ → View E S → Type 0 = λ id' u. (j : ℕ) (e : E) → get_elem? u.ends j ≡ some e → StandsAt X place' w id' j e in record {
      world = R.world;
      words = R.words;
      lies = R.lies;
      reached = R.reached;
      place = place';
      each_end = λ id' u at. elim (last_or (set s.views id none) v u id' at) [
        | inl there ↦ elim (at_set s.views id id' none u there) [
          | inl x ↦ subst (P id') x.1 (λ j e in_none. absurd (some-ne-none e (sym in_none)))
          | inr x ↦ λ j e in_u. (let t = R.each_end id' u x.1 j e in_u in (left_other id new id' j (R.place (X.ends.number_of e)) x.0 t.0, t.1))
        ]
        | inr x ↦ subst (P id') x.1 (λ j e in_v. (let t = R.each_end id v mine j e in_v in
            (left_own id new j (R.place (X.ends.number_of e)) t.0 ∙ ap (λ (m : ℕ). let q : ℕ × ℕ = (m, j) in q) (sym (x.0 ∙ length-set s.views id none)), t.1)))
      ];
      each_past = λ id' u at. elim (last_or (set s.views id none) v u id' at) [
        | inl there ↦ elim (at_set s.views id id' none u there) [
          | inl x ↦ subst (λ (y : View E S). EachPast (Saw X R.reached.steps) y.ends y.pasts) x.1 tt
          | inr x ↦ R.each_past id' u x.1
        ]
        | inr x ↦ subst (λ (y : View E S). EachPast (Saw X R.reached.steps) y.ends y.pasts) x.1 (R.each_past id v mine)
      ];
    }
