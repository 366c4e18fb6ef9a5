-- A step of one end keeps the rule of the table.
use Rattle.std.proofs.Common.{◌≡◌, ◌≢◌, ℕ, zero, suc, ◌<◌, inl, inr, ◌==◌, Bool, true, false, cond, List, [], ◌∷◌, ◌++◌, get_or, set, sym, refl, ap, ◌∙◌, subst, append_assoc}
use Rattle.std.proofs.lemmas.Bool.{eq-eqb, ne_eqb}
use Rattle.std.proofs.lemmas.List.{append-nil}
use Rattle.std.proofs.lemmas.List.Elements.{filter-append}
use mathlib.Core.Option.{Option, some, some-injective, some-ne-none}
use lib.ListN.{get_elem?}
use Rattle.atomic_table.specs.Table.{Act, keeps, carried_after, homes_after, Valid, Allows}
use Rattle.atomic_table.proofs.Lists.{at_set}
use Rattle.dr_meaning.specs.Meaning.Transcript.{Transcript}
use Rattle.dr_runs.specs.declared.view.View.{View}
use Rattle.dr_runs.specs.Runs.{Ends, Exchange, Runs, IsBeginning, IsReached}
use Rattle.dr_runs.specs.Seats.{End, holding, alone, first_past, EachPast, end_of, seat_at, past_of, stores_of, stored_of, Saw, Ruled}

-- what is so of each end's past
pub each_map : {E S : Type 0} (P Q : E → List S → Type 0) (es : List E) (pasts : List (List S))
    → ((j : ℕ) (e : E) (past : List S) → get_elem? es j ≡ some e → P e past → Q e past) → EachPast P es pasts → EachPast Q es pasts
each_map P Q [] [] f A = tt
each_map P Q [] (p ∷ ps) f A = absurd A
each_map P Q (e ∷ es) [] f A = absurd A
each_map P Q (e ∷ es) (p ∷ ps) f A = (f 0 e p refl A.0, each_map P Q es ps (λ j x past at. f (suc j) x past at) A.1)

first_saw : {E S : Type 0} (P : E → List S → Type 0) (e : E) (pasts : List (List S)) → EachPast P (e ∷ []) pasts → P e (first_past pasts)
first_saw P e [] A = absurd A
first_saw P e (p ∷ ps) A = A.0

-- a view of one record
one : {E : Type 0} (P : ℕ → E → Type 0) (e : E) → P 0 e → (j : ℕ) (x : E) → get_elem? (e ∷ []) j ≡ some x → P j x
one P e p zero x at = subst (P 0) (some-injective e x at) p
one P e p (suc j) x at = absurd (some-ne-none x (sym at))

-- a run goes on by one step
begins_more : {S : Type 0} (past steps : List S) (step : S) → IsBeginning past steps → IsBeginning past (steps ++ step ∷ [])
begins_more past steps step B = (B.0 ++ step ∷ [], ap (λ (xs : List _). xs ++ step ∷ []) B.1 ∙ append_assoc past B.0 (step ∷ []))

module _ {T S W : Type 0} (Happens : S → W → W → Type 0) (entries_of : S → W → Transcript T) where
  pub runs_more : (steps : List S) (es : Transcript T) (w u v : W) (step : S) → Runs Happens entries_of steps es w u → Happens step u v
      → Runs Happens entries_of (steps ++ step ∷ []) (es ++ entries_of step u) w v
  runs_more [] es w u v step R H = (
    v,
    [],
    subst (λ (x : W). Happens step x v) (sym R.1) H,
    ap (λ (xs : Transcript T). xs ++ entries_of step u) R.0 ∙ ap (entries_of step) (sym R.1) ∙ sym (append-nil (entries_of step w)),
    (refl, refl),
  )
  runs_more (s ∷ steps) es w u v step R H = (
    R.0,
    R.1 ++ entries_of step u,
    R.2,
    ap (λ (xs : Transcript T). xs ++ entries_of step u) R.3 ∙ append_assoc (entries_of s w) R.1 (entries_of step u),
    runs_more steps R.1 R.0 u v step R.4 H,
  )

-- what a step adds to the stores of its end, where it adds nothing to another's
pub record Adds {E S : Type 0} (ends : Ends E S) (end : ℕ) (step : S) (grow : List S → List S) : Type 0 where
  pub own : (steps : List S) → stores_of ends end (steps ++ step ∷ []) ≡ grow (stores_of ends end steps)
  pub other : (n : ℕ) → n ≢ end → (steps : List S) → stores_of ends n (steps ++ step ∷ []) ≡ stores_of ends n steps

module _ {E S : Type 0} (ends : Ends E S) where
  store_there : (n : ℕ) (steps : List S) (step : S) → ends.is_store_of n step ≡ true → stores_of ends n (steps ++ step ∷ []) ≡ stores_of ends n steps ++ step ∷ []
  store_there n steps step is =
      filter-append (ends.is_store_of n) steps (step ∷ []) ∙ ap (λ (b : Bool). stores_of ends n steps ++ cond b (step ∷ []) []) is

  no_store_there : (n : ℕ) (steps : List S) (step : S) → ends.is_store_of n step ≡ false → stores_of ends n (steps ++ step ∷ []) ≡ stores_of ends n steps
  no_store_there n steps step is =
      filter-append (ends.is_store_of n) steps (step ∷ []) ∙ ap (λ (b : Bool). stores_of ends n steps ++ cond b (step ∷ []) []) is
      ∙ append-nil (stores_of ends n steps)

  pub adds_nothing : (end : ℕ) (step : S) → ((n : ℕ) → ends.is_store_of n step ≡ false) → Adds ends end step (λ stores. stores)
  adds_nothing end step is = record { own = λ steps. no_store_there end steps step (is end); other = λ n ne steps. no_store_there n steps step (is n) }

  pub adds_one : (end : ℕ) (step : S) → ((n : ℕ) → ends.is_store_of n step ≡ (n == end)) → Adds ends end step (λ stores. stores ++ step ∷ [])
  adds_one end step is = record {
    own = λ steps. store_there end steps step (is end ∙ eq-eqb end end refl);
    other = λ n ne steps. no_store_there n steps step (is n ∙ ne_eqb n end ne);
  }

module _ {T C E S W : Type 0} (X : Exchange T C E S W) where
  -- the place of an end, with what it stands for
  abbrev pub StandsAt : (ℕ → ℕ × ℕ) → W → ℕ → ℕ → E → Type 0
  StandsAt place w id j e = (place (X.ends.number_of e) ≡ (id, j)) × X.Stands w e

  -- the ends but one stand as they stood
  abbrev pub OthersStand : W → W → ℕ → Type 0
  OthersStand w u n = (x : E) → X.ends.number_of x ≢ n → X.Stands w x → X.Stands u x

  -- one view changes, to that of one end whose record is new; the others stay
  views_change : (views : List (View E S)) (place : ℕ → ℕ × ℕ) (w u : W) (id : ℕ) (e : E) (past : List S) → place (X.ends.number_of e) ≡ (id, 0)
      → X.Stands u e → OthersStand w u (X.ends.number_of e)
      → ((id' : ℕ) (v : View E S) → get_elem? views id' ≡ some v → (j : ℕ) (x : E) → get_elem? v.ends j ≡ some x → StandsAt place w id' j x)
      → (id' : ℕ) (v : View E S) → get_elem? (set views id (record { ends = e ∷ []; pasts = past ∷ [] })) id' ≡ some v → (j : ℕ) (x : E)
      → get_elem? v.ends j ≡ some x → StandsAt place u id' j x
  views_change views place w u id e past here stands others each id' v there =
      elim (at_set views id id' (record { ends = e ∷ []; pasts = past ∷ [] }) v there) [
        | inl x ↦ subst (λ (v : View E S). (j : ℕ) (y : E) → get_elem? v.ends j ≡ some y → StandsAt place u id' j y) x.1
            (one (λ j y. StandsAt place u id' j y) e (here ∙ ap (λ (m : ℕ). let p : ℕ × ℕ = (m, 0) in p) (sym x.0), stands))
        | inr x ↦ λ j y in_v. (let t = each id' v x.1 j y in_v in
            (t.0, others y (λ (same : X.ends.number_of y ≡ X.ends.number_of e). x.0 (ap (λ (p : ℕ × ℕ). p.0) (sym t.0 ∙ ap place same ∙ here))) t.1))
      ]

  saw_more : (steps : List S) (step : S) (e : E) (past : List S)
      → stores_of X.ends (X.ends.number_of e) (steps ++ step ∷ []) ≡ stores_of X.ends (X.ends.number_of e) steps → Saw X steps e past
      → Saw X (steps ++ step ∷ []) e past
  saw_more steps step e past nothing saw = record {
    begins = begins_more past steps step saw.begins;
    entries = saw.entries;
    world = saw.world;
    runs = saw.runs;
    stands = saw.stands;
    stores = saw.stores ∙ sym nothing;
  }

  -- the end of each other seat is another
  apart : (views : List (View E S)) (place : ℕ → ℕ × ℕ) (w : W) (id end : ℕ) → place end ≡ (id, 0)
      → ((id' : ℕ) (v : View E S) → get_elem? views id' ≡ some v → (j : ℕ) (x : E) → get_elem? v.ends j ≡ some x → StandsAt place w id' j x)
      → (id' : ℕ) (v : View E S) → id' ≢ id → get_elem? views id' ≡ some v → (j : ℕ) (x : E) → get_elem? v.ends j ≡ some x → X.ends.number_of x ≢ end
  apart views place w id end here each id' v ne there j x at =
      λ (e : X.ends.number_of x ≡ end). ne (ap (λ (p : ℕ × ℕ). p.0) (sym (each id' v there j x at).0 ∙ ap place e ∙ here))

  -- and the end whose step it is has seen it, and the others what they saw
  pasts_change : (views : List (View E S)) (steps : List S) (step : S) (id end : ℕ) (e : E) (es : Transcript T) (u : W)
      → Runs X.Happens X.entries_of (steps ++ step ∷ []) es X.opening u → X.Stands u e
      → ((n : ℕ) → n ≢ end → (steps : List S) → stores_of X.ends n (steps ++ step ∷ []) ≡ stores_of X.ends n steps)
      → ((id' : ℕ) (v : View E S) → id' ≢ id → get_elem? views id' ≡ some v → (j : ℕ) (x : E) → get_elem? v.ends j ≡ some x → X.ends.number_of x ≢ end)
      → ((id' : ℕ) (v : View E S) → get_elem? views id' ≡ some v → EachPast (Saw X steps) v.ends v.pasts)
      → (id' : ℕ) (v : View E S) → get_elem? (set views id (record { ends = e ∷ []; pasts = (steps ++ step ∷ []) ∷ [] })) id' ≡ some v
      → EachPast (Saw X (steps ++ step ∷ [])) v.ends v.pasts
  pasts_change views steps step id end e es u runs stands nothing others each id' v there =
      elim (at_set views id id' (record { ends = e ∷ []; pasts = (steps ++ step ∷ []) ∷ [] }) v there) [
        | inl x ↦ subst (λ (v : View E S). EachPast (Saw X (steps ++ step ∷ [])) v.ends v.pasts) x.1
            (record { begins = ([], sym (append-nil (steps ++ step ∷ []))); entries = es; world = u; runs = runs; stands = stands; stores = refl }, tt)
        | inr x ↦ each_map (Saw X steps) (Saw X (steps ++ step ∷ [])) v.ends v.pasts
            (λ j y past at saw. saw_more steps step y past (nothing (X.ends.number_of y) (others id' v x.0 x.1 j y at) steps) saw) (each id' v x.1)
      ]

-- what a step of an end does to the world: the word i becomes n, the end's record is new, and the other ends stand
pub record Does {T C E S W : Type 0} (X : Exchange T C E S W) (step : S) (w : W) (i n : ℕ) (e : E) : Type 0 where
  pub after : W
  pub happens : X.Happens step w after
  pub words : X.words_of after ≡ set (X.words_of w) i n
  pub stands : X.Stands after e
  pub others : OthersStand X w after (X.ends.number_of e)

-- and what it takes or gives of the slots
pub record Moves {T C E S W : Type 0} (X : Exchange T C E S W) (u : W) (hand : List (ℕ × C)) (homes : List (Option C)) : Type 0 where
  pub act : Act C
  pub valid : Valid homes hand act
  pub lies : X.Lies u (homes_after homes hand act)

-- what a step of an end with this record does to a world in whose slots this lies, and what it tells the end
pub record Acts {T C E S W : Type 0} (X : Exchange T C E S W) (step : S) (w : W) (i n : ℕ) (e : E) (hand : List (ℕ × C)) (homes : List (Option C)) (told : End C E → Type 0) : Type 0 where
  pub mine : E
  pub same : X.ends.number_of mine ≡ X.ends.number_of e
  pub does : Does X step w i n mine
  pub moves : Moves X does.after hand homes
  pub tells : told (holding mine (carried_after hand moves.act))

-- a step of one end, which keeps its number
pub by_end : {T C E S W : Type 0} (X : Exchange T C E S W) (slots id : ℕ) (step : S) (grow : List S → List S) (pasts : List (List S)) (e : E) (hand : List (ℕ × C)) (i : ℕ) (f : ℕ → ℕ) (told : ℕ → End C E → Type 0)
    → Adds X.ends (X.ends.number_of e) step grow
    → ((w : W) → X.Stands w e → IsReached X w → get_or (X.words_of w) i 0 < 18446744073709551616 → (homes : List (Option C)) → X.Lies w homes
    → Acts X step w i (f (get_or (X.words_of w) i 0)) e hand homes (told (get_or (X.words_of w) i 0)))
    → Allows (Ruled X) slots id (seat_at (holding e hand) pasts) i f (λ n me'. told n (end_of me') × IsBeginning (first_past pasts) (past_of me'.0)
    × (stored_of X.ends me'.0 ≡ grow (stores_of X.ends (X.ends.number_of e) (first_past pasts))))
by_end {E = E} {S = S} X slots id step grow pasts e hand i f told adds acts s R _ at small =
    let w = R.world in let n = get_or s.words i 0 in let mine_view : View E S = record { ends = e ∷ []; pasts = pasts } in
    let before = R.reached.steps in
    let here : get_or (X.words_of w) i 0 ≡ n = ap (λ (us : List ℕ). get_or us i 0) R.words in
    let mine : StandsAt X R.place w id 0 e = R.each_end id mine_view at 0 e refl in
    let saw : Saw X before e (first_past pasts) = first_saw (Saw X before) e pasts (R.each_past id mine_view at) in
    let A : Acts X step w i (f n) e hand s.homes (told n) = subst (λ (m : ℕ). Acts X step w i (f m) e hand s.homes (told m)) here
    (acts w mine.1 R.reached (subst (λ (m : ℕ). m < 18446744073709551616) (sym here) small) s.homes R.lies) in
    let D = A.does in let steps = before ++ step ∷ [] in let entries = R.reached.entries ++ X.entries_of step w in
    let runs = runs_more X.Happens X.entries_of before R.reached.entries X.opening w D.after step R.reached.runs D.happens in (
      record { ends = A.mine ∷ []; pasts = steps ∷ [] },
      A.moves.act,
      A.moves.valid,
      record {
        world = D.after;
        words = D.words ∙ ap (λ (us : List ℕ). set us i (f n)) R.words;
        lies = A.moves.lies;
        reached = record { made = R.reached.made; steps = steps; entries = entries; runs = runs };
        place = R.place;
        each_end = views_change X s.views R.place w D.after id A.mine steps (ap R.place A.same ∙ mine.0) D.stands D.others R.each_end;
        each_past = pasts_change X s.views before step id (X.ends.number_of e) A.mine entries D.after runs D.stands adds.other
            (apart X s.views R.place w id (X.ends.number_of e) mine.0 R.each_end) R.each_past;
      },
      (
        A.tells,
        begins_more (first_past pasts) before step saw.begins,
        ap (λ (m : ℕ). stores_of X.ends m steps) A.same ∙ adds.own before
            ∙ ap grow (sym saw.stores),
      ),
    )

-- the same where nothing is said of slots
pub by_bare_end : {T C E S W : Type 0} (X : Exchange T C E S W) → ((w : W) (hs : List (Option C)) → X.Lies w hs)
    → (slots id : ℕ) (step : S) (grow : List S → List S) (pasts : List (List S)) (e : E) (i : ℕ) (f : ℕ → ℕ) (g : ℕ → E) (told : ℕ → End C E → Type 0)
    → Adds X.ends (X.ends.number_of e) step grow
    → ((n : ℕ) → X.ends.number_of (g n) ≡ X.ends.number_of e)
    → ((w : W) → X.Stands w e → IsReached X w → get_or (X.words_of w) i 0 < 18446744073709551616
    → Does X step w i (f (get_or (X.words_of w) i 0)) (g (get_or (X.words_of w) i 0)) × told (get_or (X.words_of w) i 0) (alone (g (get_or (X.words_of w) i 0))))
    → Allows (Ruled X) slots id (seat_at (alone e) pasts) i f (λ n me'. told n (end_of me') × IsBeginning (first_past pasts) (past_of me'.0)
    × (stored_of X.ends me'.0 ≡ grow (stores_of X.ends (X.ends.number_of e) (first_past pasts))))
by_bare_end X nothing slots id step grow pasts e i f g told adds same does =
    by_end X slots id step grow pasts e [] i f told adds
    (λ w at reached small homes _. let d = does w at reached small in let n = get_or (X.words_of w) i 0 in
    record { mine = g n; same = same n; does = d.0; moves = record { act = keeps; valid = tt; lies = nothing d.0.after homes }; tells = d.1 })
