-- The parts of what is lent come back one after another.
use Rattle.std.proofs.Common.{◌≡◌, ◌≢◌, ℕ, ◌+◌, ◌-◌, ◌<◌, ◌≤◌, inl, inr, Bool, true, false, List, [], ◌∷◌, ◌++◌, length, set, drop, Some, sym, refl}
use Rattle.std.proofs.Common.{ap, ◌∙◌, subst, arith, append_assoc, length-set}
use Rattle.std.specs.Prelude.{⊤}
use Rattle.std.specs.Bool.{MatchBool}
use Rattle.std.proofs.lemmas.Bool.{cases_eq}
use Rattle.std.proofs.lemmas.List.{append-nil}
use mathlib.Core.Option.{some, some-injective}
use lib.ListN.{get_elem?}
use Rattle.atomic_table.specs.Table.{rest}
use Rattle.atomic_table.proofs.Lists.{set_here, set_else}
use Rattle.dr_cells.specs.declared.token.Token.{Token}
use Rattle.dr_cells.specs.Hold.{Hold, blank, whole, part, kept, held, joined, regained}
use Rattle.dr_cells.specs.Tokens.{token_at, no_token, with_hold}
use Rattle.dr_seq.proofs.Apart.{slots_differ}
use Rattle.dr_runs.proofs.Lists.{past_end}
use Rattle.dr_lent.specs.Rows.{cells_of, AreAllWhole}
use Rattle.dr_lent.proofs.Lists.{drop_at}
use Rattle.dr_lent.proofs.Trading.{was_there}
use Rattle.dr_lent.specs.declared.lent.Lent.{Lent}
use Rattle.dr_runs.specs.declared.counts.HandlerCounts.{HandlerCounts}
use Rattle.dr_lent.specs.Slots.{is_in_hand}
use Rattle.dr_plain.specs.Meaning.Shape.{Shape}
use Rattle.dr_plain.specs.Meaning.Words.{cell_of, slot_of}
use Rattle.dr_plain.specs.Meaning.Lying.{part_of, placed}
use Rattle.dr_plain.specs.Inside.Seats.{Hand}
use Rattle.dr_plain.specs.Inside.Finishing.{parts_left, all_left, IsLane, TakesLane, OnePartBack, AreOut}
use Rattle.dr_runs.proofs.Elements.{there, at_below}
use Rattle.dr_plain.proofs.Tokens.{out}
use Rattle.dr_plain.proofs.Collecting.{cells_set}
use Rattle.dr_plain.proofs.Ending.{left_held, left_home}

module _ {T : Type 0} where
  held_joined : (h : Hold T) → held (joined h) ≡ held h
  held_joined blank = refl
  held_joined (whole x) = refl
  held_joined (part r x) = refl
  held_joined (kept r n x) = refl

  held_regained : (h : Hold T) → held (regained h) ≡ held h
  held_regained blank = refl
  held_regained (whole x) = refl
  held_regained (part r x) = refl
  held_regained (kept r n x) = refl

  -- as many tokens, and those of all cells but of some sequences are as they were
  pub record Untouched (k : Shape) (first upto : ℕ) (tokens tokens' : List (Token T)) : Type 0 where
    pub count : length tokens' ≡ length tokens
    pub others : (i : ℕ) → ((s : ℕ) → first ≤ s → s < upto → cell_of k s ≢ i) → get_elem? tokens' i ≡ get_elem? tokens i

  pub untouched_none : (k : Shape) (first : ℕ) (tokens : List (Token T)) → Untouched k first first tokens tokens
  untouched_none k first tokens = record { count = refl; others = λ i none. refl }

  pub untouched_set : (k : Shape) (first s place : ℕ) (tokens was now : List (Token T)) (t : Token T) → Untouched k first s tokens was → first ≤ s
      → place ≡ cell_of k s
      → now ≡ set was place t → Untouched k first (s + 1) tokens now
  untouched_set k first s place tokens was now t U low at put = record {
    count = ap length put ∙ length-set was place t ∙ U.count;
    others = λ i none. ap (λ (xs : List (Token T)). get_elem? xs i) put ∙ set_else was place i t (λ (e : i ≡ place). none s low (omega arith) (sym at ∙ sym e))
        ∙ U.others i (λ q from to. none q from (omega arith));
  }

  pub untouched_same : (k : Shape) (first s : ℕ) (tokens was now : List (Token T)) → Untouched k first s tokens was → now ≡ was
      → Untouched k first (s + 1) tokens now
  untouched_same k first s tokens was now U same = record {
    count = ap length same ∙ U.count;
    others = λ i none. ap (λ (xs : List (Token T)). get_elem? xs i) same ∙ U.others i (λ q from to. none q from (omega arith));
  }

  -- the next cell's token is still what it was
  pub untouched_next : (k : Shape) (first s : ℕ) (tokens now : List (Token T)) → Untouched k first s tokens now → s < first + k.size
      → get_elem? now (cell_of k s) ≡ get_elem? tokens (cell_of k s)
  untouched_next k first s tokens now U near =
      U.others (cell_of k s) (λ q from to. slots_differ k.size q s (λ (e : q ≡ s). omega arith) (omega arith) (omega arith))

  pub back_none : (k : Shape) (first : ℕ) (tokens : List (Token T)) → OnePartBack k first first tokens tokens
  back_none k first tokens = record { count = refl; cells = refl; back = λ s t low lt at. absurd (omega arith); others = λ i none. refl }

  pub untouched_of : (k : Shape) (first s : ℕ) (tokens now : List (Token T)) → OnePartBack k first s tokens now → Untouched k first s tokens now
  untouched_of k first s tokens now B = record { count = B.count; others = B.others }

  pub back_more : (k : Shape) (first s place : ℕ) (tokens was now : List (Token T)) (t : Token T) → OnePartBack k first s tokens was → first ≤ s
      → s < first + k.size
      → place ≡ cell_of k s → get_elem? was place ≡ some t → now ≡ set was place (with_hold t (joined t.hold)) → OnePartBack k first (s + 1) tokens now
  back_more k first s place tokens was now t B low near at here put =
      let t' = with_hold t (joined t.hold) in let U = untouched_set k first s place tokens was now t' (untouched_of k first s tokens was B) low at put in
      let next = untouched_next k first s tokens was (untouched_of k first s tokens was B) near in record {
        count = U.count;
        cells = ap cells_of put ∙ cells_set was place t t' here (held_joined t.hold) ∙ B.cells;
        back = λ q u from to at_q. ap (λ (xs : List (Token T)). get_elem? xs (cell_of k q)) put ∙ elim (cases_eq q s) [
          | inl e ↦ (
              let cell : cell_of k q ≡ place = ap (λ (n : ℕ). cell_of k n) e ∙ sym at in
              let same : t ≡ u = some-injective t u (sym here ∙ ap (λ (i : ℕ). get_elem? was i) at ∙ next ∙ ap (λ (n : ℕ). get_elem? tokens (cell_of k n)) (sym e) ∙ at_q) in
              ap (λ (i : ℕ). get_elem? (set was place t') i) cell ∙ set_here was place t' (at_below was place t here) ∙ ap (λ (x : Token T). some (with_hold x (joined x.hold))) same)
          | inr ne ↦ set_else was place (cell_of k q) t' (λ (e : cell_of k q ≡ place). slots_differ k.size q s ne (omega arith) (omega arith) (e ∙ at)) ∙ B.back q u from (omega arith) at_q
        ];
        others = U.others;
      }

  -- the slots that are first in hand
  pub lane_begins : (k : Shape) (h : ℕ) (c : HandlerCounts) (first upto : ℕ) (hand : Hand T) → TakesLane k h c first upto first hand hand
  lane_begins k h c first upto hand lents others count is = ([], is ∙ ap (λ (ys : Hand T). parts_left k h c first (drop first lents) ++ ys) (sym (append-nil others)))

  module _ (k : Shape) (h : ℕ) (c : HandlerCounts) (first upto s : ℕ) (hand now : Hand T) (L : TakesLane k h c first upto s hand now) (lt : s < upto) where
    pub lane_held : (next : Hand T) → is_in_hand c s ≡ true → next ≡ now → TakesLane k h c first upto (s + 1) hand next
    lane_held next in_hand same lents others count is =
        let t = L lents others count is in let l = there lents s (omega arith) in (
          t.0,
          same ∙ t.1 ∙ ap (λ (ys : Hand T). ys ++ (others ++ t.0))
              (ap (λ (ls : List (Lent T)). parts_left k h c s ls) (drop_at lents s l.0 l.1) ∙ left_held k h c s l.0 (drop (s + 1) lents) in_hand),
        )

    lane_first : (lents : List (Lent T)) (others : Hand T) (l : Lent T) → length lents ≡ upto
        → hand ≡ parts_left k h c first (drop first lents) ++ others → is_in_hand c s ≡ false
        → get_elem? lents s ≡ some l → (behind : Hand T) × (now ≡ placed k h s (Some l) ∷ (parts_left k h c (s + 1) (drop (s + 1) lents) ++ (others ++ behind)))
    lane_first lents others l count is at_home at =
        let t = L lents others count is in (
          t.0,
          t.1 ∙ ap (λ (ys : Hand T). ys ++ (others ++ t.0))
              (ap (λ (ls : List (Lent T)). parts_left k h c s ls) (drop_at lents s l at) ∙ left_home k h c s l (drop (s + 1) lents) at_home),
        )

    pub lane_home : (next : Hand T) (y : ℕ × Token T) → is_in_hand c s ≡ false → next ≡ rest now ++ y ∷ [] → TakesLane k h c first upto (s + 1) hand next
    lane_home next y at_home new lents others count is =
        let l = there lents s (omega arith) in let t = lane_first lents others l.0 count is at_home l.1 in let left = parts_left k h c (s + 1) (drop (s + 1) lents) in (
          t.0 ++ y ∷ [],
          new ∙ ap (λ (ys : Hand T). rest ys ++ y ∷ []) t.1 ∙ append_assoc left (others ++ t.0) (y ∷ [])
              ∙ ap (λ (ys : Hand T). left ++ ys) (append_assoc others t.0 (y ∷ [])),
        )

    -- what lies in the first of them
    pub lane_slot : (lents : List (Lent T)) (others : Hand T) (l : Lent T) → length lents ≡ upto
        → hand ≡ parts_left k h c first (drop first lents) ++ others → is_in_hand c s ≡ false
        → get_elem? lents s ≡ some l → now ≡ placed k h s (Some l) ∷ rest now
    lane_slot lents others l count is at_home at =
        let t = lane_first lents others l count is at_home at in t.1 ∙ ap (λ (ys : Hand T). placed k h s (Some l) ∷ ys) (sym (ap rest t.1))

  -- all parts of a handler are back
  pub out_less : (k : Shape) (first upto m n : ℕ) (lents : List (Lent T)) (tokens tokens' : List (Token T)) → AreOut k first upto m lents tokens
      → OnePartBack k first upto tokens tokens'
      → m - 1 ≡ n → AreOut k first upto n lents tokens'
  out_less k first upto m n lents tokens tokens' A B less = record {
    count = A.count;
    near = A.near;
    cells = B.count ∙ A.cells;
    out = λ s l low at. (let lt = at_below lents s l at in let all = A.count in
        B.back s (out k s m l) low (omega arith) (A.out s l low at) ∙ ap (λ (j : ℕ). some (out k s j l)) less);
    others = λ i t none at. A.others i t none (sym (B.others i none) ∙ at);
  }

  pub lane_of : (k : Shape) (h : ℕ) (c : HandlerCounts) (first upto m : ℕ) (lents : List (Lent T)) (hand others : Hand T) (parts tokens : List (Token T))
      → AreOut k first upto m lents tokens → 0 < m → length parts ≡ k.size
      → ((s : ℕ) (l : Lent T) → first ≤ s → is_in_hand c s ≡ true → get_elem? lents s ≡ some l → get_elem? parts (cell_of k s) ≡ some (part_of k s (Some l)))
      → hand ≡ parts_left k h c first (drop first lents) ++ others → IsLane k h c first upto m lents hand parts tokens
  lane_of k h c first upto m lents hand others parts tokens A some_part places held_there is = record {
    count = A.count;
    near = A.near;
    some_part = some_part;
    places = places;
    cells = A.cells;
    out = A.out;
    held = held_there;
    others = others;
    in_front = is;
  }

  -- the slots of the next handlers
  pub next_left : (k : Shape) (h : ℕ) (counts : List HandlerCounts) (c : HandlerCounts) (first : ℕ) (lents : List (Lent T)) (hand o : Hand T)
      → get_elem? counts h ≡ some c
      → hand ≡ all_left k h (drop h counts) first lents ++ o
      → hand ≡ parts_left k h c first lents ++ (all_left k (h + 1) (drop (h + 1) counts) first lents ++ o)
  next_left k h counts c first lents hand o at is =
      is ∙ ap (λ (cs : List HandlerCounts). all_left k h cs first lents ++ o) (drop_at counts h c at)
      ∙ append_assoc (parts_left k h c first lents) (all_left k (h + 1) (drop (h + 1) counts) first lents) o

  pub lane_over : (k : Shape) (h : ℕ) (c : HandlerCounts) (first upto : ℕ) (lents : List (Lent T)) (hand hand' others : Hand T) → length lents ≡ upto
      → hand ≡ parts_left k h c first (drop first lents) ++ others → TakesLane k h c first upto upto hand hand' → (behind : Hand T) × (hand' ≡ others ++ behind)
  lane_over k h c first upto lents hand hand' others count is L =
      let t = L lents others count is in (t.0, t.1 ∙ ap (λ (ls : List (Lent T)). parts_left k h c upto ls ++ (others ++ t.0)) (past_end lents upto count))

  -- one more cell is whole
  pub whole_next : (k : Shape) (s upto place : ℕ) (lents : List (Lent T)) (was now : List (Token T)) (t : Token T) (l : Lent T)
      → AreOut k s upto 0 lents was → s < upto
      → place ≡ cell_of k s → get_elem? lents s ≡ some l → get_elem? was place ≡ some t → now ≡ set was place (with_hold t (regained t.hold))
      → AreOut k (s + 1) upto 0 lents now
  whole_next k s upto place lents was now t l A lt at lent here put =
      let t' = with_hold t (regained t.hold) in let near = A.near in let all = A.count in
      let is : t ≡ out k s 0 l = some-injective t (out k s 0 l) (sym here ∙ ap (λ (i : ℕ). get_elem? was i) at ∙ A.out s l (omega arith) lent) in
      let new : t' ≡ token_at k.strip (cell_of k s) (whole l.event) = ap (λ (q : Token T). with_hold q (regained q.hold)) is in record {
        count = A.count;
        near = omega arith;
        cells = ap length put ∙ length-set was place t' ∙ A.cells;
        out = λ q x low at_q. (let inside = at_below lents q x at_q in
            ap (λ (xs : List (Token T)). get_elem? xs (cell_of k q)) put
            ∙ set_else was place (cell_of k q) t' (λ (e : cell_of k q ≡ place). slots_differ k.size q s (λ (z : q ≡ s). omega arith) (omega arith) (omega arith) (e ∙ at))
            ∙ A.out q x (omega arith) at_q);
        others = λ i u none at_i. (
            let there_i : get_elem? (set was place t') i ≡ some u = ap (λ (xs : List (Token T)). get_elem? xs i) (sym put) ∙ at_i in
            elim (cases_eq i place) [
              | inl e ↦ (let same : t' ≡ u = some-injective t' u (sym (set_here was place t' (at_below was place t here)) ∙ ap (λ (n : ℕ). get_elem? (set was place t') n) (sym e) ∙ there_i) in
                  (l.event, sym same ∙ new ∙ ap (λ (n : ℕ). token_at k.strip n (whole l.event)) (sym at ∙ sym e)))
              | inr ne ↦ A.others i u (λ q from to. elim (cases_eq q s) [
                | inl e ↦ λ (z : cell_of k q ≡ i). ne (sym z ∙ ap (λ (n : ℕ). cell_of k n) e ∙ sym at)
                | inr other ↦ none q (omega arith) to
              ]) (sym (set_else was place i t' ne) ∙ there_i)
            ]);
      }

  pub whole_cells : (was now : List (Token T)) (place : ℕ) (t : Token T) → get_elem? was place ≡ some t
      → now ≡ set was place (with_hold t (regained t.hold)) → cells_of now ≡ cells_of was
  whole_cells was now place t here put = ap cells_of put ∙ cells_set was place t (with_hold t (regained t.hold)) here (held_regained t.hold)

  pub whole_all : (k : Shape) (s upto : ℕ) (lents : List (Lent T)) (tokens : List (Token T)) → AreOut k s upto 0 lents tokens → upto ≤ s
      → AreAllWhole k.strip tokens
  whole_all k s upto lents tokens A over i t at = A.others i t (λ q from to. absurd (omega arith)) at

  -- a part is drawn out of a hand, or out of the slot that is first in hand
  pub may_draw : (k : Shape) (h : ℕ) (c : HandlerCounts) (first upto s m slot : ℕ) (lents : List (Lent T)) (hand now : Hand T) (parts tokens : List (Token T)) (in_hand : Bool)
      → IsLane k h c first upto m lents hand parts tokens → TakesLane k h c first upto s hand now → s < upto → slot ≡ slot_of k h s → in_hand ≡ is_in_hand c s
      → MatchBool in_hand ⊤ ((old : Token T) × (now ≡ (slot, old) ∷ rest now))
  may_draw k h c first upto s m slot lents hand now parts tokens true L TL lt at is = tt
  may_draw k h c first upto s m slot lents hand now parts tokens false L TL lt at is =
      let all = L.count in let l = there lents s (omega arith) in (
        part_of k s (Some l.0),
        lane_slot k h c first upto s hand now TL lt lents L.others l.0 L.count L.in_front (sym is) l.1
            ∙ ap (λ (n : ℕ). (n, part_of k s (Some l.0)) ∷ rest now) (sym at),
      )

  pub record Drawn (k : Shape) (h : ℕ) (c : HandlerCounts) (first upto s : ℕ) (lents : List (Lent T)) (hand next : Hand T) (parts parts' : List (Token T)) (t : Token T) : Type 0 where
    pub is : (l : Lent T) → get_elem? lents s ≡ some l → t ≡ part_of k s (Some l)
    pub hand_is : TakesLane k h c first upto (s + 1) hand next
    pub parts_are : Untouched k first (s + 1) parts parts'

  pub drawn : (k : Shape) (h : ℕ) (c : HandlerCounts) (first upto s m slot place : ℕ) (lents : List (Lent T)) (hand now next : Hand T) (parts was parts' tokens : List (Token T)) (in_hand : Bool) (t : Token T)
      → IsLane k h c first upto m lents hand parts tokens → TakesLane k h c first upto s hand now → Untouched k first s parts was → first ≤ s → s < upto
      → place ≡ cell_of k s → slot ≡ slot_of k h s → in_hand ≡ is_in_hand c s
      → MatchBool in_hand ((get_elem? was place ≡ some t) × (parts' ≡ set was place no_token) × (next ≡ now))
      ((parts' ≡ was) × (now ≡ (slot, t) ∷ rest now) × (next ≡ rest now ++ (slot, no_token) ∷ []))
      → Drawn k h c first upto s lents hand next parts parts' t
  drawn k h c first upto s m slot place lents hand now next parts was parts' tokens true t L TL U low lt place_is slot_is which given = let near = L.near in record {
    is = λ l at. some-injective t (part_of k s (Some l))
        (sym given.0 ∙ ap (λ (i : ℕ). get_elem? was i) place_is ∙ untouched_next k first s parts was U (omega arith) ∙ L.held s l low (sym which) at);
    hand_is = lane_held k h c first upto s hand now TL lt next (sym which) given.2;
    parts_are = untouched_set k first s place parts was parts' no_token U low place_is given.1;
  }
  drawn k h c first upto s m slot place lents hand now next parts was parts' tokens false t L TL U low lt place_is slot_is which given = record {
    is = λ l at. was_there now slot (placed k h s (Some l)) t (lane_slot k h c first upto s hand now TL lt lents L.others l L.count L.in_front (sym which) at) given.1;
    hand_is = lane_home k h c first upto s hand now TL lt next (slot, no_token) (sym which) given.2;
    parts_are = untouched_same k first s parts was parts' U given.0;
  }

  pub out_all : (k : Shape) (first upto n : ℕ) (lents : List (Lent T)) (tokens : List (Token T)) → AreOut k first upto n lents tokens
      → AreOut k first upto (n - 0) lents tokens
  out_all k first upto n lents tokens A = let z : n ≡ n - 0 = omega arith in subst (λ (m : ℕ). AreOut k first upto m lents tokens) z A

  -- the token of the next cell, of which m parts are out
  pub next_out : (k : Shape) (h : ℕ) (c : HandlerCounts) (first upto s m : ℕ) (lents : List (Lent T)) (hand : Hand T) (parts tokens now : List (Token T)) (l : Lent T)
      → IsLane k h c first upto m lents hand parts tokens → OnePartBack k first s tokens now → first ≤ s → s < upto → get_elem? lents s ≡ some l
      → get_elem? now (cell_of k s) ≡ some (out k s m l)
  next_out k h c first upto s m lents hand parts tokens now l L B low lt at = let near = L.near in
      untouched_next k first s tokens now (untouched_of k first s tokens now B) (omega arith) ∙ L.out s l low at

-- as many, and the same from a place on
pub record SameFrom {A : Type 0} (n : ℕ) (xs ys : List A) : Type 0 where
  pub count : length ys ≡ length xs
  pub same : (i : ℕ) → n ≤ i → get_elem? ys i ≡ get_elem? xs i

pub same_from : {A : Type 0} (xs : List A) → SameFrom 0 xs xs
same_from xs = record { count = refl; same = λ i le. refl }

pub same_more : {A : Type 0} (n : ℕ) (xs ys zs : List A) (a : A) → SameFrom n xs ys → zs ≡ set ys n a → SameFrom (n + 1) xs zs
same_more n xs ys zs a S put = record {
  count = ap length put ∙ length-set ys n a ∙ S.count;
  same = λ i le. ap (λ (ws : List _). get_elem? ws i) put ∙ set_else ys n i a (λ (e : i ≡ n). omega arith) ∙ S.same i (omega arith);
}
