-- The parts of what is lent come back one after another, and the cells.
use Rattle.std.proofs.Common.{◌≡◌, ◌≢◌, ℕ, zero, suc, ◌+◌, ◌-◌, ◌<◌, ◌≤◌, inl, inr, Bool, true, false, if◌then◌else◌, List, [], ◌∷◌, ◌++◌, length, set, drop}
use Rattle.std.proofs.Common.{Option, None, Some, sym, refl, ap, ◌∙◌, subst, arith, append_assoc, length-set}
use Rattle.std.specs.Prelude.{⊤}
use Rattle.std.specs.Bool.{MatchBool}
use Rattle.std.proofs.Math.Nat.{mod-lt}
use Rattle.std.proofs.lemmas.Bool.{cases_eq}
use Rattle.std.proofs.lemmas.List.{append-nil}
use mathlib.Core.Option.{some, some-injective}
use lib.ListN.{get_elem?}
use Rattle.atomic_table.specs.Table.{rest}
use Rattle.atomic_table.proofs.Lists.{set_here, set_else}
use Rattle.dr_cells.specs.declared.token.Token.{Token}
use Rattle.dr_cells.specs.Hold.{CanJoin, joined}
use Rattle.dr_cells.specs.Tokens.{no_token, with_hold}
use Rattle.dr_seq.proofs.Apart.{slots_differ}
use Rattle.dr_runs.specs.declared.counts.HandlerCounts.{HandlerCounts}
use Rattle.dr_runs.proofs.Elements.{there, at_below}
use Rattle.dr_lent.proofs.Lists.{drop_at}
use Rattle.dr_lent.proofs.Trading.{was_there}
use Rattle.dr_lent.specs.declared.lent.Lent.{Lent}
use Rattle.dr_lent.proofs.Tokens.{out_is, can_join, joined_is}
use Rattle.dr_lent.specs.Slots.{is_in_hand}
use Rattle.dr_plain_senders.specs.Meaning.Shape.{Shape, handlers_of}
use Rattle.dr_plain_senders.specs.Meaning.Words.{cell_of, keeping_lane, lane_of, slot_of}
use Rattle.dr_plain_senders.specs.Meaning.Lying.{Laid, unlent, lent, kept_of, part_of, placed}
use Rattle.dr_plain_senders.specs.Inside.Seats.{Hand, IsOfRound}
use Rattle.dr_plain_senders.specs.Inside.Finishing.{parts_left, row_left, rows_left, AreWide, HoldParts, SameBut, IsRow, whole_of, AreRows, AreBack}
use Rattle.dr_plain_senders.proofs.Tokens.{out}

pub drop_past : {A : Type 0} (xs : List A) (n : ℕ) → length xs ≤ n → drop n xs ≡ []
drop_past [] zero le = refl
drop_past [] (suc n) le = refl
drop_past (x ∷ xs) zero le = absurd (omega arith)
drop_past (x ∷ xs) (suc n) le = drop_past xs n (omega arith)

module _ {T : Type 0} where
  pub same_but_none : (place : ℕ) (hands : List (List (Token T))) → SameBut place hands hands
  same_but_none place hands = record {
    count = refl;
    each = λ h parts parts' at at'. (let same = some-injective parts' parts (sym at' ∙ at) in
        (ap length same, λ i ne. ap (λ (xs : List (Token T)). get_elem? xs i) same));
  }

  pub wide_next : (k : Shape T) (place : ℕ) (hands hands' : List (List (Token T))) → AreWide k hands → SameBut place hands hands' → AreWide k hands'
  wide_next k place hands hands' W S = record {
    count = S.count ∙ W.count;
    each = λ h parts' at. (let b = at_below hands' h parts' at in let n = S.count in let p = there hands h (omega arith) in
        (S.each h p.0 parts' p.1 at).0 ∙ W.each h p.0 p.1);
  }

  pub hold_next : (k : Shape T) (counts : List HandlerCounts) (q place : ℕ) (l : Lent T) (hands hands' : List (List (Token T))) → HoldParts k counts q l hands
      → SameBut place hands hands' → cell_of k q ≢ place → HoldParts k counts q l hands'
  hold_next k counts q place l hands hands' H S ne h c parts' at_c at_h in_hand =
      let b = at_below hands' h parts' at_h in let n = S.count in let p = there hands h (omega arith) in
      (S.each h p.0 parts' p.1 at_h).1 (cell_of k q) ne ∙ H h c p.0 at_c p.1 in_hand

  -- what a draw makes of the hand and of the row of a handler
  abbrev pub Draws : Bool → ℕ → ℕ → Hand T → Hand T → List (Token T) → List (Token T) → Token T → Type 0
  Draws in_hand slot place now next parts parts' t =
      MatchBool in_hand ((get_elem? parts place ≡ some t) × (parts' ≡ set parts place no_token) × (next ≡ now))
      ((parts' ≡ parts) × (now ≡ (slot, t) ∷ rest now) × (next ≡ rest now ++ (slot, no_token) ∷ []))

  drawn_row : (in_hand : Bool) (slot place : ℕ) (now next : Hand T) (parts parts' : List (Token T)) (t : Token T)
      → Draws in_hand slot place now next parts parts' t
      → (length parts' ≡ length parts) × ((i : ℕ) → i ≢ place → get_elem? parts' i ≡ get_elem? parts i)
  drawn_row true slot place now next parts parts' t D =
      (ap length D.1 ∙ length-set parts place no_token, λ i ne. ap (λ (xs : List (Token T)). get_elem? xs i) D.1 ∙ set_else parts place i no_token ne)
  drawn_row false slot place now next parts parts' t D = (ap length D.0, λ i ne. ap (λ (xs : List (Token T)). get_elem? xs i) D.0)

  -- the rows from a handler on are as before
  abbrev pub SameRows : ℕ → List (List (Token T)) → List (List (Token T)) → Type 0
  SameRows h hands0 hands = (j : ℕ) → h ≤ j → get_elem? hands j ≡ get_elem? hands0 j

  pub rows_next : (h : ℕ) (hands0 hands : List (List (Token T))) (parts' : List (Token T))
      → SameRows h hands0 hands → SameRows (h + 1) hands0 (set hands h parts')
  rows_next h hands0 hands parts' S j le = set_else hands h j parts' (λ (e : j ≡ h). omega arith) ∙ S j (omega arith)

  pub but_next : (in_hand : Bool) (h slot place : ℕ) (hands0 hands : List (List (Token T))) (now next : Hand T) (parts parts' : List (Token T)) (t : Token T)
      → SameBut place hands0 hands → SameRows h hands0 hands → get_elem? hands h ≡ some parts → Draws in_hand slot place now next parts parts' t
      → SameBut place hands0 (set hands h parts')
  but_next in_hand h slot place hands0 hands now next parts parts' t S R at D = record {
    count = length-set hands h parts' ∙ S.count;
    each = λ j p p' at_j at_j'. elim (cases_eq j h) [
      | inl e ↦ (
          let was : parts ≡ p = some-injective parts p (sym at ∙ R h (omega arith) ∙ ap (λ (n : ℕ). get_elem? hands0 n) (sym e) ∙ at_j) in
          let is : parts' ≡ p' = some-injective parts' p'
          (sym (set_here hands h parts' (at_below hands h parts at)) ∙ ap (λ (n : ℕ). get_elem? (set hands h parts') n) (sym e) ∙ at_j') in
          let row = drawn_row in_hand slot place now next parts parts' t D in
          subst (λ (x : List (Token T) × List (Token T)). (length x.1 ≡ length x.0) × ((i : ℕ) → i ≢ place → get_elem? x.1 i ≡ get_elem? x.0 i))
          (λ i. (was i, is i)) row)
      | inr ne ↦ S.each j p p' at_j (sym (set_else hands h j parts' ne) ∙ at_j')
    ];
  }

  module _ (k : Shape T) (counts : List HandlerCounts) (q : ℕ) where
    left_held : (h : ℕ) (c : HandlerCounts) (cs : List HandlerCounts) (l : Lent T) → is_in_hand c (q - k.size) ≡ true
        → parts_left k h (c ∷ cs) q l ≡ parts_left k (h + 1) cs q l
    left_held h c cs l held = ap (λ (b : Bool). if b then parts_left k (h + 1) cs q l else placed k (lane_of h) q (lent l) ∷ parts_left k (h + 1) cs q l) held

    left_home : (h : ℕ) (c : HandlerCounts) (cs : List HandlerCounts) (l : Lent T) → is_in_hand c (q - k.size) ≡ false
        → parts_left k h (c ∷ cs) q l ≡ placed k (lane_of h) q (lent l) ∷ parts_left k (h + 1) cs q l
    left_home h c cs l free = ap (λ (b : Bool). if b then parts_left k (h + 1) cs q l else placed k (lane_of h) q (lent l) ∷ parts_left k (h + 1) cs q l) free

    -- the parts of the handlers below h are back: those of the others are first in hand, but for those that are in their rows
    abbrev pub Taking : Token T → Hand T → ℕ → Hand T → Token T → Type 0
    Taking kept0 hand0 h now kept = (l : Lent T) (others : Hand T) → kept0 ≡ kept_of k q (lent l) → hand0 ≡ parts_left k 0 counts q l ++ others
        → (behind : Hand T) × (now ≡ parts_left k h (drop h counts) q l ++ (others ++ behind)) × (kept ≡ out k q (length counts - h) l)

    pub taking_none : (kept : Token T) (hand : Hand T) → length counts ≡ handlers_of k → Taking kept hand 0 hand kept
    taking_none kept hand all l others is front = (
      [],
      front ∙ ap (λ (ys : Hand T). parts_left k 0 counts q l ++ ys) (sym (append-nil others)),
      out_is k.strip (cell_of k q) kept (handlers_of k) (length counts - 0) l is (omega arith),
    )

    module _ (kept0 : Token T) (hand0 : Hand T) (h : ℕ) (c : HandlerCounts) (now : Hand T)
        (kept : Token T) (G : Taking kept0 hand0 h now kept) (at : get_elem? counts h ≡ some c) where
      -- a part that is in no hand is in the slot that is first
      first_slot : (l : Lent T) (others : Hand T) → kept0 ≡ kept_of k q (lent l) → hand0 ≡ parts_left k 0 counts q l ++ others
          → is_in_hand c (q - k.size) ≡ false
          → (behind : Hand T) × (now ≡ placed k (lane_of h) q (lent l) ∷ (parts_left k (h + 1) (drop (h + 1) counts) q l ++ (others ++ behind)))
      first_slot l others is front free = let t = G l others is front in (
        t.0,
        t.1 ∙ ap (λ (ys : Hand T). ys ++ (others ++ t.0))
            (ap (λ (cs : List HandlerCounts). parts_left k h cs q l) (drop_at counts h c at) ∙ left_home h c (drop (h + 1) counts) l free),
      )

      slot_is : (l : Lent T) (others : Hand T) → kept0 ≡ kept_of k q (lent l) → hand0 ≡ parts_left k 0 counts q l ++ others → is_in_hand c (q - k.size) ≡ false
          → now ≡ placed k (lane_of h) q (lent l) ∷ rest now
      slot_is l others is front free = let t = first_slot l others is front free in
          t.1 ∙ ap (λ (ys : Hand T). placed k (lane_of h) q (lent l) ∷ ys) (sym (ap rest t.1))

      pub may_draw : (in_hand : Bool) (slot : ℕ) (l : Lent T) (others : Hand T) → kept0 ≡ kept_of k q (lent l) → hand0 ≡ parts_left k 0 counts q l ++ others
          → in_hand ≡ is_in_hand c (q - k.size) → slot ≡ slot_of k (lane_of h) q → MatchBool in_hand ⊤ ((old : Token T) × (now ≡ (slot, old) ∷ rest now))
      may_draw true slot l others is front which same = tt
      may_draw false slot l others is front which same =
          (part_of k q (lent l), slot_is l others is front (sym which) ∙ ap (λ (n : ℕ). (n, part_of k q (lent l)) ∷ rest now) (sym same))

      -- what is drawn is the handler's part
      pub part_drawn : (in_hand : Bool) (slot place : ℕ) (next : Hand T) (parts parts' : List (Token T)) (t : Token T) (l : Lent T) (others : Hand T)
          → kept0 ≡ kept_of k q (lent l) → hand0 ≡ parts_left k 0 counts q l ++ others → in_hand ≡ is_in_hand c (q - k.size) → place ≡ cell_of k q
          → (is_in_hand c (q - k.size) ≡ true → get_elem? parts (cell_of k q) ≡ some (part_of k q (lent l)))
          → Draws in_hand slot place now next parts parts' t → t ≡ part_of k q (lent l)
      part_drawn true slot place next parts parts' t l others is front which same held D =
          some-injective t (part_of k q (lent l)) (sym D.0 ∙ ap (λ (i : ℕ). get_elem? parts i) same ∙ held (sym which))
      part_drawn false slot place next parts parts' t l others is front which same held D =
          was_there now slot (placed k (lane_of h) q (lent l)) t (slot_is l others is front (sym which)) D.1

      pub may_join : (t : Token T) (l : Lent T) (others : Hand T) → kept0 ≡ kept_of k q (lent l) → hand0 ≡ parts_left k 0 counts q l ++ others
          → h < length counts → t ≡ part_of k q (lent l) → CanJoin kept.hold t.hold
      may_join t l others is front lt part = can_join k.strip (cell_of k q) kept t (length counts - h) l (G l others is front).2 part (omega arith)

      pub taking_next : (in_hand : Bool) (slot place : ℕ) (next : Hand T) (parts parts' : List (Token T)) (t kept' : Token T)
          → in_hand ≡ is_in_hand c (q - k.size)
          → Draws in_hand slot place now next parts parts' t → kept' ≡ with_hold kept (joined kept.hold) → Taking kept0 hand0 (h + 1) next kept'
      taking_next true slot place next parts parts' t kept' which D join l others is front =
          let g = G l others is front in (
            g.0,
            D.2 ∙ g.1 ∙ ap (λ (ys : Hand T). ys ++ (others ++ g.0))
                (ap (λ (cs : List HandlerCounts). parts_left k h cs q l) (drop_at counts h c at) ∙ left_held h c (drop (h + 1) counts) l (sym which)),
            joined_is k.strip (cell_of k q) kept kept' (length counts - h) (length counts - (h + 1)) l g.2 join (omega arith),
          )
      taking_next false slot place next parts parts' t kept' which D join l others is front =
          let g = G l others is front in let f = first_slot l others is front (sym which) in let left = parts_left k (h + 1) (drop (h + 1) counts) q l in (
            f.0 ++ (slot, no_token) ∷ [],
            D.2 ∙ ap (λ (ys : Hand T). rest ys ++ (slot, no_token) ∷ []) f.1 ∙ append_assoc left (others ++ f.0) ((slot, no_token) ∷ [])
                ∙ ap (λ (ys : Hand T). left ++ ys) (append_assoc others f.0 ((slot, no_token) ∷ [])),
            joined_is k.strip (cell_of k q) kept kept' (length counts - h) (length counts - (h + 1)) l g.2 join (omega arith),
          )

  -- what is kept of a cell is in the slot that is first in hand
  pub row_slot : (k : Shape T) (counts : List HandlerCounts) (q : ℕ) (a : Laid T) (others hand : Hand T) (hands : List (List (Token T)))
      → IsRow k counts q a others hand hands
      → (slot : ℕ) → slot ≡ slot_of k keeping_lane q → (old : Token T) × (hand ≡ (slot, old) ∷ rest hand)
  row_slot k counts q a others hand hands R slot same =
      (kept_of k q a, first_of k counts q a others hand R.in_front ∙ ap (λ (n : ℕ). (n, kept_of k q a) ∷ rest hand) (sym same))
    where
      first_of : (k : Shape T) (counts : List HandlerCounts) (q : ℕ) (a : Laid T) (others hand : Hand T) → hand ≡ row_left k counts q a ++ others
          → hand ≡ (slot_of k keeping_lane q, kept_of k q a) ∷ rest hand
      first_of k counts q (unlent x) others hand is = is ∙ ap (λ (ys : Hand T). placed k keeping_lane q (unlent x) ∷ ys) (sym (ap rest is))
      first_of k counts q (lent l) others hand is = is ∙ ap (λ (ys : Hand T). placed k keeping_lane q (lent l) ∷ ys) (sym (ap rest is))

  -- once it is out, the parts are first in hand, where something is lent
  pub row_parts : (k : Shape T) (counts : List HandlerCounts) (q : ℕ) (a : Laid T) (others hand : Hand T) (hands : List (List (Token T)))
      → IsRow k counts q a others hand hands
      → (slot : ℕ) (t : Token T) (next : Hand T) → (hand ≡ (slot, t) ∷ rest hand) × (next ≡ rest hand ++ (slot, no_token) ∷ []) → k.size ≤ q
      → (l : Lent T) × (more : Hand T) × (t ≡ kept_of k q (lent l)) × (next ≡ parts_left k 0 counts q l ++ more) × HoldParts k counts q l hands
  row_parts k counts q (unlent x) others hand hands R slot t next taken late = absurd (let early = R.round.0 in omega arith)
  row_parts k counts q (lent l) others hand hands R slot t next taken late =
      let first : hand ≡ placed k keeping_lane q (lent l) ∷ rest hand =
      R.in_front ∙ ap (λ (ys : Hand T). placed k keeping_lane q (lent l) ∷ ys) (sym (ap rest R.in_front)) in (
        l,
        others ++ (slot, no_token) ∷ [],
        was_there hand slot (placed k keeping_lane q (lent l)) t first taken.0,
        taken.1 ∙ ap (λ (ys : Hand T). rest ys ++ (slot, no_token) ∷ []) R.in_front ∙ append_assoc (parts_left k 0 counts q l) others ((slot, no_token) ∷ []),
        R.held l refl,
      )

  -- The cells come back one after another.
  pub record Back (k : Shape T) (counts : List HandlerCounts) (c s : ℕ) (laid : List (Option (Laid T)))
      (tokens0 : List (Token T)) (hand : Hand T) (hands : List (List (Token T))) (tokens : List (Token T)) : Type 0 where
    pub others : Hand T
    pub in_front : hand ≡ rows_left k counts s (drop (s - c) laid) ++ others
    pub held : (i : ℕ) (l : Lent T) → s ≤ c + i → get_elem? laid i ≡ some (Some (lent l)) → HoldParts k counts (c + i) l hands
    pub count : length tokens ≡ length tokens0
    pub back : (i : ℕ) (a : Laid T) → c + i < s → get_elem? laid i ≡ some (Some a) → get_elem? tokens (cell_of k (c + i)) ≡ some (whole_of k (c + i) a)
    pub left : (i : ℕ) → i < k.size → (c + i < s → get_elem? laid i ≡ some None) → get_elem? tokens (cell_of k (c + i)) ≡ get_elem? tokens0 (cell_of k (c + i))

  pub back_none : (k : Shape T) (counts : List HandlerCounts) (c : ℕ) (laid : List (Option (Laid T)))
      (tokens : List (Token T)) (hand : Hand T) (hands : List (List (Token T))) (brought : List Bool)
      → AreRows k counts c laid hand hands brought → Back k counts c c laid tokens hand hands tokens
  back_none k counts c laid tokens hand hands brought R = let z : 0 ≡ c - c = omega arith in record {
    others = R.others;
    in_front = R.in_front ∙ ap (λ (n : ℕ). rows_left k counts c (drop n laid) ++ R.others) z;
    held = λ i l le at. R.held i l at;
    count = refl;
    back = λ i a lt at. absurd (omega arith);
    left = λ i inside open_there. refl;
  }

  pub back_all : (k : Shape T) (counts : List HandlerCounts) (c s : ℕ) (laid : List (Option (Laid T)))
      (tokens0 : List (Token T)) (hand : Hand T) (hands : List (List (Token T))) (tokens : List (Token T))
      → length laid ≡ k.size → s ≡ c + k.size → Back k counts c s laid tokens0 hand hands tokens → AreBack k c laid tokens0 tokens
  back_all k counts c s laid tokens0 hand hands tokens all end B = record {
    count = B.count;
    back = λ i a at. (let b = at_below laid i (Some a) at in B.back i a (omega arith) at);
    kept = λ i at. (let b = at_below laid i None at in B.left i (omega arith) (λ lt. at));
  }

  -- what is to be done for one cell
  abbrev pub IsTold : Bool → Shape T → List HandlerCounts → ℕ → Hand T → List (List (Token T)) → Type 0
  IsTold brought k counts s hand hands = MatchBool brought ⊤ ((a : Laid T) × (others : Hand T) × IsRow k counts s a others hand hands)

  -- and what comes of it
  abbrev pub Reclaims : Bool → Shape T → List HandlerCounts → ℕ → Hand T → Hand T → List (List (Token T)) → List (Token T) → List (Token T) → Type 0
  Reclaims brought k counts s hand hand' hands tokens tokens' =
      MatchBool brought ((tokens' ≡ tokens) × (hand' ≡ hand))
      ((t : Token T) × (tokens' ≡ set tokens (cell_of k s) t)
      × ((a : Laid T) (others : Hand T) → IsRow k counts s a others hand hands → (t ≡ whole_of k s a) × ((behind : Hand T) × (hand' ≡ others ++ behind))))

  pub room_next : (brought : Bool) (k : Shape T) (counts : List HandlerCounts) (s : ℕ)
      (hand hand' : Hand T) (hands : List (List (Token T))) (tokens tokens' : List (Token T))
      → Reclaims brought k counts s hand hand' hands tokens tokens' → length tokens' ≡ length tokens
  room_next true k counts s hand hand' hands tokens tokens' did = ap length did.0
  room_next false k counts s hand hand' hands tokens tokens' did = ap length did.1 ∙ length-set tokens (cell_of k s) did.0

  module _ (k : Shape T) (counts : List HandlerCounts) (c s : ℕ) (laid : List (Option (Laid T)))
      (hand0 : Hand T) (hands0 : List (List (Token T))) (marks : List Bool)
      (R : AreRows k counts c laid hand0 hands0 marks) (tokens0 : List (Token T)) (hand : Hand T) (hands : List (List (Token T))) (tokens : List (Token T))
      (B : Back k counts c s laid tokens0 hand hands tokens) (low : c ≤ s) (high : s < c + k.size)
      (brought : Bool) (marked : get_elem? marks (cell_of k s) ≡ some brought) where
    place : c + (s - c) ≡ s
    place = omega arith

    -- what lies in the next cell, as its mark says
    row_of : (a : Laid T) → get_elem? laid (s - c) ≡ some (Some a) → (others : Hand T) × IsRow k counts s a others hand hands
    row_of a at = let rest_left : Hand T = rows_left k counts (s + 1) (drop (s - c + 1) laid) in (
      rest_left ++ B.others,
      record {
        round = subst (λ (n : ℕ). IsOfRound k n a) place (R.rounds (s - c) a at);
        in_front = B.in_front ∙ ap (λ (xs : List (Option (Laid T))). rows_left k counts s xs ++ B.others) (drop_at laid (s - c) (Some a) at)
            ∙ append_assoc (row_left k counts s a) rest_left B.others;
        held = λ l is. subst (λ (n : ℕ). HoldParts k counts n l hands) place
            (B.held (s - c) l (omega arith) (at ∙ ap (λ (x : Laid T). some (Some x)) is));
      },
    )

    is_laid : brought ≡ false → (a : Laid T) × (get_elem? laid (s - c) ≡ some (Some a))
    is_laid is = let n = R.count in let o = there laid (s - c) (omega arith) in go o.0 o.1
      where
        go : (o : Option (Laid T)) → get_elem? laid (s - c) ≡ some o → (a : Laid T) × (get_elem? laid (s - c) ≡ some (Some a))
        go (Some a) at = (a, at)
        go None at =
            absurd (let e = some-injective brought true (sym marked ∙ ap (λ (n : ℕ). get_elem? marks (cell_of k n)) (sym place) ∙ R.opened (s - c) at) in
            let z : false ≡ true = sym is ∙ e in cc)

    is_none : brought ≡ true → get_elem? laid (s - c) ≡ some None
    is_none is = let n = R.count in let o = there laid (s - c) (omega arith) in go o.0 o.1
      where
        go : (o : Option (Laid T)) → get_elem? laid (s - c) ≡ some o → get_elem? laid (s - c) ≡ some None
        go None at = at
        go (Some a) at =
            absurd (let e = some-injective brought false (sym marked ∙ ap (λ (n : ℕ). get_elem? marks (cell_of k n)) (sym place) ∙ R.laid_there (s - c) a at) in
            let z : true ≡ false = sym is ∙ e in cc)

    pub told : IsTold brought k counts s hand hands
    told = go brought refl
      where
        go : (b : Bool) → brought ≡ b → IsTold b k counts s hand hands
        go true e = tt
        go false e = let a = is_laid e in let row = row_of a.0 a.1 in (a.0, row.0, row.1)

    apart : (i : ℕ) → i < k.size → i ≢ s - c → cell_of k (c + i) ≢ cell_of k s
    apart i inside ne = slots_differ k.size (c + i) s (λ (e : c + i ≡ s). ne (omega arith)) (omega arith) (omega arith)

    pub back_next : (hand' : Hand T) (hands' : List (List (Token T))) (tokens' : List (Token T))
        → length tokens ≡ k.size → 0 < k.size → SameBut (cell_of k s) hands hands'
        → Reclaims brought k counts s hand hand' hands tokens tokens' → Back k counts c (s + 1) laid tokens0 hand' hands' tokens'
    unfolding row_of
    back_next hand' hands' tokens' room some_slot S did = go brought refl did
      where
        later : s - c + 1 ≡ s + 1 - c
        later = omega arith

        held_on : (i : ℕ) (l : Lent T) → s + 1 ≤ c + i → get_elem? laid i ≡ some (Some (lent l)) → HoldParts k counts (c + i) l hands'
        held_on i l le at =
            let n = R.count in let b = at_below laid i (Some (lent l)) at in
            hold_next k counts (c + i) (cell_of k s) l hands hands' (B.held i l (omega arith) at) S (apart i (omega arith) (λ (e : i ≡ s - c). omega arith))

        go : (b : Bool) → brought ≡ b → Reclaims b k counts s hand hand' hands tokens tokens' → Back k counts c (s + 1) laid tokens0 hand' hands' tokens'
        go true e did_so =
            let none = is_none e in record {
              others = B.others;
              in_front = did_so.1 ∙ B.in_front ∙ ap (λ (xs : List (Option (Laid T))). rows_left k counts s xs ++ B.others) (drop_at laid (s - c) None none)
                  ∙ ap (λ (n : ℕ). rows_left k counts (s + 1) (drop n laid) ++ B.others) later;
              held = held_on;
              count = ap length did_so.0 ∙ B.count;
              back = λ i a lt at. ap (λ (xs : List (Token T)). get_elem? xs (cell_of k (c + i))) did_so.0 ∙ elim (cases_eq i (s - c)) [
                | inl is ↦ absurd (let z = some-injective (Some a) None (sym at ∙ ap (λ (n : ℕ). get_elem? laid n) is ∙ none) in cc)
                | inr ne ↦ B.back i a (omega arith) at
              ];
              left =
                  λ i inside open_there.
                  ap (λ (xs : List (Token T)). get_elem? xs (cell_of k (c + i))) did_so.0 ∙ B.left i inside (λ lt. open_there (omega arith));
            }
        go false e did_so =
            let a = is_laid e in let row = row_of a.0 a.1 in let came = did_so.2 a.0 row.0 row.1 in let t = did_so.0 in
            let cell = cell_of k s in let inside_cell : cell < length tokens = (let m : cell < k.size = mod-lt s some_slot in omega arith) in
            let else_there : (i : ℕ) → i < k.size → i ≢ s - c → get_elem? tokens' (cell_of k (c + i)) ≡ get_elem? tokens (cell_of k (c + i)) =
            λ i inside ne.
            ap (λ (xs : List (Token T)). get_elem? xs (cell_of k (c + i))) did_so.1 ∙ set_else tokens cell (cell_of k (c + i)) t (apart i inside ne) in
            let rest_left : Hand T = rows_left k counts (s + 1) (drop (s - c + 1) laid) in record {
              others = B.others ++ came.1.0;
              in_front = came.1.1 ∙ append_assoc rest_left B.others came.1.0
                  ∙ ap (λ (n : ℕ). rows_left k counts (s + 1) (drop n laid) ++ (B.others ++ came.1.0)) later;
              held = held_on;
              count = ap length did_so.1 ∙ length-set tokens cell t ∙ B.count;
              back = λ i x lt at. elim (cases_eq i (s - c)) [
                | inl is ↦ (
                    let same : a.0 ≡ x = one_of a.0 x (some-injective (Some a.0) (Some x) (sym a.1 ∙ ap (λ (n : ℕ). get_elem? laid n) (sym is) ∙ at)) in
                    let at_s : c + i ≡ s = omega arith in
                    ap (λ (xs : List (Token T)). get_elem? xs (cell_of k (c + i))) did_so.1 ∙ ap (λ (n : ℕ). get_elem? (set tokens cell t) (cell_of k n)) at_s
                    ∙ set_here tokens cell t inside_cell ∙ ap (λ (y : Token T). some y) came.0 ∙ (λ j. some (whole_of k (sym at_s j) (same j))))
                | inr ne ↦ (let n = R.count in let b = at_below laid i (Some x) at in else_there i (omega arith) ne ∙ B.back i x (omega arith) at)
              ];
              left = λ i inside open_there. elim (cases_eq i (s - c)) [
                | inl is ↦
                    absurd (let z = some-injective (Some a.0) None (sym a.1 ∙ ap (λ (n : ℕ). get_elem? laid n) (sym is) ∙ open_there (omega arith)) in cc)
                | inr ne ↦ else_there i inside ne ∙ B.left i inside (λ lt. open_there (omega arith))
              ];
            }
          where
            one_of : (x y : Laid T) → ◌≡◌ {A = Option (Laid T)} (Some x) (Some y) → x ≡ y
            one_of x y is = cc
