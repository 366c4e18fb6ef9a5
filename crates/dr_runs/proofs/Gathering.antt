-- The seats of ends come to one seat one after another, from the last.
use Rattle.std.proofs.Common.{◌≡◌, ℕ, zero, suc, ◌+◌, inl, inr, List, [], ◌∷◌, ◌++◌, map, length, get_or, set, drop, sym, refl, ap, ◌∙◌, subst, arith, append_assoc}
use Rattle.std.proofs.Common.{length-set}
use Rattle.std.proofs.lemmas.List.{length-append}
use mathlib.Core.Option.{some, some-injective, some-ne-none, none}
use lib.ListN.{get_elem?}
use lib.Seq.{set-get_or}
use Rattle.atomic_table.specs.Table.{step, keeps, Allows}
use Rattle.atomic_table.specs.Seated.{TableId}
use Rattle.atomic_table.proofs.Lists.{at_longer, at_last, at_set}
use Rattle.dr_runs.specs.declared.view.View.{View}
use Rattle.dr_runs.specs.Runs.{Ends, Exchange, IsBeginning}
use Rattle.dr_runs.specs.Seats.{End, Sitting, EachPast, alone, first_past, with_pasts, end_of, past_of, pasts_of, both_views, first_number, stores_of, stored_of, Saw, Ruled}
use Rattle.dr_runs.specs.Gathering.{AreOf, Known, IsInView, Gathers, ViewRan, Compares}
use Rattle.dr_runs.proofs.Lists.{no_elements, past_end, drop_set, at_behind, at_map}
use Rattle.dr_runs.proofs.Seats.{StandsAt, each_map}

module _ {E S : Type 0} where
  -- the ends of a view, and of two, with the pasts that they have already
  with_again : (es : List E) (ps : List (List S)) → with_pasts es (map (λ (x : E × List S). x.1) (with_pasts es ps)) ≡ with_pasts es ps
  with_again [] ps = refl
  with_again (e ∷ es) ps = ap (λ (xs : List (E × List S)). (e, first_past ps) ∷ xs) (with_again es (drop 1 ps))

  with_both : (es : List E) (ps : List (List S)) (v : View E S)
      → with_pasts (es ++ v.ends) (map (λ (x : E × List S). x.1) (with_pasts es ps) ++ pasts_of v) ≡ with_pasts es ps ++ with_pasts v.ends v.pasts
  with_both [] ps v = with_again v.ends v.pasts
  with_both (e ∷ es) ps v = ap (λ (xs : List (E × List S)). (e, first_past ps) ∷ xs) (with_both es (drop 1 ps) v)

module _ {E S : Type 0} (ends : Ends E S) where
  in_first : (v w : View E S) (x : Known E S) → IsInView ends v x → IsInView ends (both_views v w) x
  in_first v w x I = (
    I.0,
    subst (λ (xs : List (E × List S)). get_elem? xs I.0 ≡ some (x.knows, x.past)) (sym (with_both v.ends v.pasts w))
        (at_longer (with_pasts v.ends v.pasts) (with_pasts w.ends w.pasts) I.0 (x.knows, x.past) I.1),
    I.2,
  )

  in_second : (v w : View E S) (x : Known E S) → IsInView ends w x → IsInView ends (both_views v w) x
  in_second v w x I = let n = length (with_pasts v.ends v.pasts) in (
    n + I.0,
    subst (λ (xs : List (E × List S)). get_elem? xs (n + I.0) ≡ some (x.knows, x.past)) (sym (with_both v.ends v.pasts w))
        (at_behind (with_pasts v.ends v.pasts) (with_pasts w.ends w.pasts) I.0 (x.knows, x.past) I.1),
    I.2,
  )

  -- a seat that stands for one end alone has it in its view
  pub in_own : {C : Type 0} (me : Sitting C E S) (x : Known E S) → end_of me ≡ alone x.knows → past_of me.0 ≡ x.past → stored_of ends me.0 ≡ x.stored → IsInView ends me.0 x
  in_own {C = C} me x is past stored = let one : me.0.ends ≡ x.knows ∷ [] = ap (λ (m : End C E). m.0) is in (
    0,
    subst (λ (es : List E). get_elem? (with_pasts es me.0.pasts) 0 ≡ some (x.knows, x.past)) (sym one)
        (ap (λ (p : List S). let y : E × List S = (x.knows, p) in some y) past),
    ap (λ (p : List S). stores_of ends (ends.number_of x.knows) p) (sym past)
        ∙ ap (λ (es : List E). stores_of ends (first_number ends es) (past_of me.0)) (sym one) ∙ stored,
  )

each_there : {E S : Type 0} (P : E → List S → Type 0) (es : List E) (ps : List (List S)) (j : ℕ) (x : E × List S) → EachPast P es ps
    → get_elem? (with_pasts es ps) j ≡ some x → P x.0 x.1
each_there P [] ps j x A at = absurd (some-ne-none x (sym at))
each_there P (e ∷ es) [] j x A at = absurd A
each_there P (e ∷ es) (p ∷ ps) zero x A at = subst (λ (y : _). P y.0 y.1) (some-injective (e, p) x at) A.0
each_there P (e ∷ es) (p ∷ ps) (suc j) x A at = each_there P es ps j x A.1 at

-- what the run that a view came to says of an end: its record stands, it saw a beginning, and it stored what it says
pub record InRun {T C E S W : Type 0} (X : Exchange T C E S W) (w : W) (steps : List S) (x : Known E S) : Type 0 where
  pub stands : X.Stands w x.knows
  pub begins : IsBeginning x.past steps
  pub stores : stores_of X.ends (X.ends.number_of x.knows) steps ≡ x.stored

pub in_run : {T C E S W : Type 0} (X : Exchange T C E S W) (v : View E S) (V : ViewRan X v) (x : Known E S) → IsInView X.ends v x
    → InRun X V.world V.reached.steps x
in_run X v V x I =
    let both = each_there (λ e past. Saw X V.reached.steps e past × X.Stands V.world e) v.ends v.pasts I.0 (x.knows, x.past) V.each I.1 in
    record { stands = both.1; begins = both.0.begins; stores = sym both.0.stores ∙ I.2 }

-- the ends `seen` have come, the others `left` not yet
pub record Gathering {A E S : Type 0} (ends : Ends E S) (known : A → Known E S) (v now : View E S) (left seen all : List A) : Type 0 where
  pub split : left ++ seen ≡ all
  pub stay : (x : Known E S) → IsInView ends v x → IsInView ends now x
  pub come : (i : ℕ) (a : A) → get_elem? seen i ≡ some a → IsInView ends now (known a)

pub gathering_none : {A E S : Type 0} (ends : Ends E S) (known : A → Known E S) (v : View E S) (all : List A) → all ++ [] ≡ all
    → Gathering ends known v v all [] all
gathering_none ends known v all same = record { split = same; stay = λ x in_view. in_view; come = λ i a at. absurd (some-ne-none a (sym at)) }

come_more : {A : Type 0} (P : A → Type 0) (a : A) (seen : List A) → P a → ((i : ℕ) (x : A) → get_elem? seen i ≡ some x → P x)
    → (i : ℕ) (x : A) → get_elem? (a ∷ seen) i ≡ some x → P x
come_more P a seen first before zero x at = subst P (some-injective a x at) first
come_more P a seen first before (suc i) x at = before i x at

pub gathering_more : {A E S : Type 0} {ends : Ends E S} {known : A → Known E S} {v now next : View E S} {left left' seen all : List A} {a : A}
    (other : View E S) → Gathering ends known v now left seen all → left ≡ left' ++ a ∷ [] → IsInView ends other (known a) → next ≡ both_views now other
    → Gathering ends known v next left' (a ∷ seen) all
gathering_more {E = E} {S = S} {ends = ends} {known = known} {now = now} {next = next} {left' = left'} {seen = seen} {a = a} other G popped came is =
    let In : Known E S → Type 0 = λ x. IsInView ends next x in
    let joined : (x : Known E S) → IsInView ends (both_views now other) x → In x = λ x. subst (λ (u : View E S). IsInView ends u x) (sym is) in record {
      split = sym (append_assoc left' (a ∷ []) seen) ∙ ap (λ (xs : List _). xs ++ seen) (sym popped) ∙ G.split;
      stay = λ x in_view. joined x (in_first ends now other x (G.stay x in_view));
      come = come_more (λ y. In (known y)) a seen (joined (known a) (in_second ends now other (known a) came))
          (λ i y at. joined (known y) (in_first ends now other (known y) (G.come i y at)));
    }

-- all have come
pub gathering_all : {A E S : Type 0} {ends : Ends E S} {known : A → Known E S} {v now : View E S} {left seen all : List A}
    → Gathering ends known v now left seen all → length left ≡ 0 → Gathers ends v (map known all) now
gathering_all {ends = ends} {known = known} {now = now} {left = left} {seen = seen} {all = all} G none_left =
    let same : seen ≡ all = ap (λ (xs : List _). xs ++ seen) (sym (no_elements left none_left)) ∙ G.split in record {
      stay = G.stay;
      come = λ i x at. (let m = at_map known all i x at in
          subst (IsInView ends now) m.2 (G.come i m.0 (subst (λ (xs : List _). get_elem? xs i ≡ some m.0) (sym same) m.1)));
    }

-- what is counted of those that have come is at their places
pub record Filled {A C : Type 0} (count : A → C) (left seen all : List A) (counts : List C) : Type 0 where
  pub places : length counts ≡ length all
  pub filled : drop (length left) counts ≡ map count seen

pub filled_none : {A C : Type 0} (count : A → C) (all : List A) (counts : List C) → length counts ≡ length all → Filled count all [] all counts
filled_none count all counts places = record { places = places; filled = past_end counts (length all) places }

pub filled_more : {A C : Type 0} {count : A → C} {left left' seen all : List A} {a : A} {counts counts' : List C} → Filled count left seen all counts
    → left ++ seen ≡ all → left ≡ left' ++ a ∷ [] → counts' ≡ set counts (length left') (count a) → Filled count left' (a ∷ seen) all counts'
filled_more {count = count} {left = left} {left' = left'} {seen = seen} {all = all} {a = a} {counts = counts} {counts' = counts'} F split popped new =
    let len : length left ≡ length left' + 1 = ap length popped ∙ length-append left' (a ∷ []) in
    let whole : length all ≡ length left + length seen = ap length (sym split) ∙ length-append left seen in
    let room = F.places in record {
      places = ap length new ∙ length-set counts (length left') (count a) ∙ F.places;
      filled = ap (drop (length left')) new
          ∙ drop_set counts (length left') (count a) (map count seen) (omega arith) (ap (λ (n : ℕ). drop n counts) (sym len) ∙ F.filled);
    }

pub filled_all : {A C : Type 0} {count : A → C} {left seen all : List A} {counts : List C} → Filled count left seen all counts → left ++ seen ≡ all
    → length left ≡ 0 → counts ≡ map count all
filled_all {count = count} {left = left} {seen = seen} {counts = counts} F split none_left =
    let same = ap (λ (xs : List _). xs ++ seen) (sym (no_elements left none_left)) ∙ split in
    ap (λ (n : ℕ). drop n counts) (sym none_left) ∙ F.filled ∙ ap (map count) same

-- the last of those that are left is of the table
pub last_of : {A : Type 0} (table_of : A → TableId) (table : TableId) (old new seen all : List A) (a : A) → AreOf table_of table all → old ++ seen ≡ all
    → old ≡ new ++ a ∷ [] → table_of a ≡ table
last_of table_of table old new seen all a of is popped =
    let last = subst (λ (xs : List _). get_elem? xs (length new) ≡ some a) (sym popped) (at_last new a (length new) refl) in
    of (length new) a (subst (λ (xs : List _). get_elem? xs (length new) ≡ some a) is (at_longer old seen (length new) a last))

-- a load that changes nothing keeps the rule
pub compares : {T C E S W : Type 0} (X : Exchange T C E S W) (slots id word : ℕ) (me : Sitting C E S)
    → Allows (Ruled X) slots id me word (λ n. n) (Compares X (step slots word 0 0 none) me)
compares {E = E} {S = S} X slots id word me s R _ at _ =
    let us = set s.words word (get_or s.words word 0) in let same : us ≡ s.words = set-get_or s.words word 0 in
    let P : ℕ → View E S → Type 0 = λ id' u. (j : ℕ) (e : E) → get_elem? u.ends j ≡ some e → StandsAt X R.place R.world id' j e in
    let here : P id me.0 = R.each_end id me.0 at in let seen = Saw X R.reached.steps in (
      me.0,
      keeps,
      tt,
      record {
        world = R.world;
        words = R.words ∙ sym same;
        lies = R.lies;
        reached = R.reached;
        place = R.place;
        each_end = λ id' u there. elim (at_set s.views id id' me.0 u there) [
          | inl x ↦ subst (P id') x.1 (λ j e in_v. (let t = here j e in_v in (t.0 ∙ ap (λ (m : ℕ). let q : ℕ × ℕ = (m, j) in q) (sym x.0), t.1)))
          | inr x ↦ R.each_end id' u x.1
        ];
        each_past = λ id' u there. elim (at_set s.views id id' me.0 u there) [
          | inl x ↦ subst (λ (v : View E S). EachPast seen v.ends v.pasts) x.1 (R.each_past id me.0 at)
          | inr x ↦ R.each_past id' u x.1
        ];
      },
      (
        refl,
        record {
          world = R.world;
          reached = R.reached;
          each = each_map seen (λ e past. seen e past × X.Stands R.world e) me.0.ends me.0.pasts (λ j e past in_v was. (was, (here j e in_v).1))
              (R.each_past id me.0 at);
        },
        ap (λ (ws : List ℕ). get_or ws word 0) R.words,
      ),
    )
