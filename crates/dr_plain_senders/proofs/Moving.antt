-- What lies at home, once an end has taken or given many tokens.
use Rattle.std.proofs.Common.{◌≡◌, ◌≢◌, ◌⊎◌, ℕ, zero, suc, ◌+◌, ◌-◌, ◌<◌, ◌≤◌, inl, inr, List, [], ◌∷◌, ◌++◌, length, set, replicate, Option, None}
use Rattle.std.proofs.Common.{Some, sym, refl, ap, ◌∙◌, subst, arith, length-set}
use Rattle.std.proofs.lemmas.Bool.{cases_eq, cases_lt}
use Rattle.std.proofs.lemmas.List.{length-append, length-replicate, length-map}
use mathlib.Core.Option.{some, some-injective, some-ne-none}
use mathlib.Core.Option as maybe
use lib.ListN.{get_elem?}
use Rattle.atomic_table.proofs.Lists.{at_set, at_longer, set_here}
use Rattle.dr_cells.specs.declared.token.Token.{Token}
use Rattle.dr_cells.specs.Hold.{whole, part, kept}
use Rattle.dr_cells.specs.Tokens.{token_at}
use Rattle.dr_runs.specs.Stretches.{stretch, rows}
use Rattle.dr_runs.proofs.Elements.{there, at_below}
use Rattle.dr_runs.proofs.Lists.{at_map, map_there}
use Rattle.dr_runs.proofs.Stretches.{Lacks, Apart, AreHome, emptied, filled, emptied_else, emptied_length, filled_else, filled_here, filled_length}
use Rattle.dr_runs.proofs.Rows.{at_stretch, stretch_at, at_rows, rows_at, apart_stretch, apart_rows}
use Rattle.dr_lent.specs.declared.lent.Lent.{Lent}
use Rattle.dr_lent.proofs.Lanes.{inside_lanes, other_lane, slots_apart, cell_later, slot_later}
use Rattle.dr_plain_senders.specs.Meaning.Shape.{Shape, handlers_of}
use Rattle.dr_plain_senders.specs.Meaning.Words.{lanes_of, slot_of}
use Rattle.dr_plain_senders.specs.declared.record.Stage.{Stage}
use Rattle.dr_plain_senders.specs.declared.record.ReceiverRecord.{ReceiverRecord}
use Rattle.dr_plain_senders.specs.Meaning.Records.{fresh_stage, published}
use Rattle.dr_plain_senders.specs.Meaning.Rule.{IsOut, IsOutWith}
use Rattle.dr_plain_senders.specs.Meaning.Lying.{Laid, unlent, lent, token_of, placed, IsLaid, LiesIn, LiesBy}
use Rattle.dr_plain_senders.specs.Inside.Seats.{lent_all}
use Rattle.dr_plain_senders.proofs.Places.{more_cases, at_replicate, set_else, one_value}
use Rattle.dr_plain_senders.proofs.Facts.{none_or_some}
use Rattle.dr_plain_senders.proofs.Stays.{Lasts}
use Rattle.dr_plain_senders.proofs.KeepsPublishes.{out_before}

-- one place has one lending
pub one_lent : {T : Type 0} (stages : List (Stage T)) (s : ℕ) (l m : Lent T) → IsOutWith stages s l → IsOutWith stages s m → l ≡ m
one_lent stages s l m x y = let same = one_value stages s x.0 y.0 x.1 y.1 in some_of l m (sym x.2 ∙ ap (λ (t : Stage _). t.lent) same ∙ y.2)
  where
    some_of : {A : Type 0} (a b : A) → ◌≡◌ {A = Option A} (Some a) (Some b) → a ≡ b
    some_of a b e = cc

-- what lies in a cell is what its last sequence published
pub laid_lent : {T : Type 0} (k : Shape T) (stages : List (Stage T)) (q s : ℕ) (l : Lent T) (a : Laid T)
    → IsLaid k stages q a → q ≡ k.size + s → IsOutWith stages s l → a ≡ lent l
laid_lent k stages q s l (unlent x) is at out = absurd (let early = is.0 in omega arith)
laid_lent k stages q s l (lent m) is at out =
    let e = is.1 in let same : is.0 ≡ s = omega arith in
    ap (λ (x : Lent _). lent x) (one_lent stages s m l (subst (λ (n : ℕ). IsOutWith stages n m) same is.2) out)

-- what a receiver's counts have to do with what is claimed
pub record Counts {T : Type 0} (k : Shape T) (stages : List (Stage T)) (r : ReceiverRecord T) : Type 0 where
  pub held : r.completed ≤ length r.received
  pub room : length stages ≤ k.size + r.completed

module _ {T : Type 0} (k : Shape T) (some_slot : 0 < k.size) where
  pub token_later : (lane s : ℕ) (a : Laid T) → token_of k lane (k.size + s) a ≡ token_of k lane s a
  token_later zero s (unlent x) = ap (λ (c : ℕ). token_at k.strip c (whole x)) (cell_later k.size s)
  token_later zero s (lent l) = ap (λ (c : ℕ). token_at k.strip c (kept l.round (handlers_of k) l.event)) (cell_later k.size s)
  token_later (suc h) s (unlent x) = refl
  token_later (suc h) s (lent l) = ap (λ (c : ℕ). token_at k.strip c (part l.round l.event)) (cell_later k.size s)

  -- a slot of some sequence, and not of one of a row
  lacks_rows : (n s : ℕ) (laid : List (Laid T)) (lane q : ℕ) → ((i : ℕ) → i < length laid → (q < s + i + k.size) × (s + i < q + k.size) × (q ≢ s + i))
      → Lacks (rows (placed k) n s laid) (slot_of k lane q)
  lacks_rows n s laid lane q apart j x at e =
      let t = at_rows (placed k) n s laid j x at in let i = t.1 in let a = apart i (at_below laid i t.2 t.4) in
      slots_apart k.size lane t.0 q (s + i) some_slot a.0 a.1 (inr a.2) (sym e ∙ ap (λ (y : ℕ × Token T). y.0) (sym t.5))

  -- the same, seen a round later
  lacks_later : (n s : ℕ) (laid : List (Laid T)) (lane q : ℕ)
      → ((i : ℕ) → i < length laid → (q < k.size + s + i + k.size) × (k.size + s + i < q + k.size) × (q ≢ k.size + s + i))
      → Lacks (rows (placed k) n s laid) (slot_of k lane q)
  lacks_later n s laid lane q apart j x at e =
      let t = at_rows (placed k) n s laid j x at in let i = t.1 in let a = apart i (at_below laid i t.2 t.4) in let b = k.size + (s + i) in
      slots_apart k.size lane t.0 q b some_slot (let z = a.0 in omega arith) (let z = a.1 in omega arith) (inr (λ (z : q ≡ b). a.2 (omega arith)))
      (sym e ∙ ap (λ (y : ℕ × Token T). y.0) (sym t.5) ∙ sym (slot_later k.size t.0 (s + i)))

  -- of a stretch of one lane
  lacks_stretch : (g s : ℕ) (laid : List (Laid T)) (lane q : ℕ)
      → ((i : ℕ) → i < length laid → (g ≢ lane) ⊎ ((q < k.size + s + i + k.size) × (k.size + s + i < q + k.size) × (q ≢ k.size + s + i)))
      → Lacks (stretch (placed k g) s laid) (slot_of k lane q)
  lacks_stretch g s laid lane q apart j x at e =
      let t = at_stretch (placed k g) s laid j x at in let b = k.size + (s + j) in
      let same : slot_of k lane q ≡ slot_of k g (s + j) = sym e ∙ ap (λ (y : ℕ × Token T). y.0) (sym t.2) in
      let later : slot_of k lane q ≡ slot_of k g b = same ∙ sym (slot_later k.size g (s + j)) in
      elim (apart j (at_below laid j t.0 t.1)) [
        | inl other ↦ other_lane k.size lane g q b some_slot (λ (z : lane ≡ g). other (sym z)) later
        | inr near ↦ (let a = near.0 in let c = near.1 in slots_apart k.size lane g q b some_slot (omega arith) (omega arith)
            (inr (λ (z : q ≡ b). near.2 (omega arith))) later)
      ]

  laid_lasts : (stages more : List (Stage T)) (q : ℕ) (a : Laid T) → Lasts stages more → IsLaid k stages q a → IsLaid k more q a
  laid_lasts stages more q (unlent x) L is = is
  laid_lasts stages more q (lent l) L is = (is.0, is.1, L is.0 l is.2)

  -- what lies in each of some cells
  pub all_laid : (receivers : List (ReceiverRecord T)) (stages : List (Stage T)) (homes : List (maybe.Option (Token T))) (c n : ℕ)
      → ((i : ℕ) → i < n → (a : Laid T) × LiesIn k receivers stages homes (c + i) a)
      → (laid : List (Laid T)) × (length laid ≡ n) × ((i : ℕ) (a : Laid T) → get_elem? laid i ≡ some a → LiesIn k receivers stages homes (c + i) a)
  all_laid receivers stages homes c zero each = ([], refl, λ i a at. absurd (some-ne-none a (sym at)))
  all_laid receivers stages homes c (suc n) each =
      let one = each 0 (omega arith) in
      let rest = all_laid receivers stages homes (suc c) n
      (λ i lt. (let e : c + suc i ≡ suc c + i = omega arith in
      subst (λ (q : ℕ). (a : Laid T) × LiesIn k receivers stages homes q a) e (each (suc i) (omega arith)))) in
      (one.0 ∷ rest.0, ap suc rest.1, each_after one.0 rest.0 one.1 rest.2)
    where
      each_after : (x : Laid T) (xs : List (Laid T)) → LiesIn k receivers stages homes (c + 0) x
          → ((i : ℕ) (a : Laid T) → get_elem? xs i ≡ some a → LiesIn k receivers stages homes (suc c + i) a)
          → (i : ℕ) (a : Laid T) → get_elem? (x ∷ xs) i ≡ some a → LiesIn k receivers stages homes (c + i) a
      each_after x xs here later zero a at = subst (LiesIn k receivers stages homes (c + 0)) (some-injective x a at) here
      each_after x xs here later (suc i) a at =
          let e : suc c + i ≡ c + suc i = omega arith in
          subst (λ (q : ℕ). LiesIn k receivers stages homes q a) e (later i a at)

  -- a token in its lane: what is kept, or a handler's part
  in_lane : (receivers : List (ReceiverRecord T)) (stages : List (Stage T)) (homes : List (maybe.Option (Token T))) (lane q : ℕ) (a : Laid T)
      → LiesIn k receivers stages homes q a
      → length receivers ≡ handlers_of k → lane < lanes_of k → ((h : ℕ) (r : ReceiverRecord T) → get_elem? receivers h ≡ some r → q < k.size + r.completed)
      → get_elem? homes (slot_of k lane q) ≡ some (some (token_of k lane q a))
  in_lane receivers stages homes zero q a I ends inside free = I.keeps
  in_lane receivers stages homes (suc h) q a I ends inside free = let r = there receivers h (omega arith) in I.parts h r.0 r.1 (inl (free h r.0 r.1))

  -- a sender claims n sequences: it takes what is kept of what lies in their cells, and every handler's part of it
  pub claims_take : (receivers : List (ReceiverRecord T)) (stages : List (Stage T)) (p n : ℕ) (laid : List (Laid T)) (homes : List (maybe.Option (Token T)))
      → LiesBy k receivers stages homes → length receivers ≡ handlers_of k → n ≤ k.size → length laid ≡ n
      → ((h : ℕ) (r : ReceiverRecord T) → get_elem? receivers h ≡ some r → length stages + n ≤ k.size + r.completed)
      → ((i : ℕ) (a : Laid T) → get_elem? laid i ≡ some a → LiesIn k receivers stages homes (length stages + i) a)
      → AreHome homes (rows (placed k) (lanes_of k) (length stages) laid) × Apart (rows (placed k) (lanes_of k) (length stages) laid)
      × LiesBy k receivers (stages ++ replicate n (fresh_stage p)) (emptied homes (rows (placed k) (lanes_of k) (length stages) laid))
  claims_take receivers stages p n laid homes L ends fits count free each =
      let c = length stages in
      let m = lanes_of k in
      let xs = rows (placed k) m c laid in
      let new = replicate n (fresh_stage {T = T} p) in
      let more = stages ++ new in
      let longer : length more ≡ c + n = omega (arith, length-append stages new, length-replicate n (fresh_stage {T = T} p)) in
      let old_out : (s : ℕ) → IsOut more s → IsOut stages s = λ s x. elim (more_cases stages new s x.1.0 x.1.1) [
        | inl old ↦ (x.0, (x.1.0, old, x.1.2))
        | inr y ↦ absurd (none_or_some x.1.0.lent x.0 (ap (λ (t : Stage T). t.lent) (sym (at_replicate n (fresh_stage p) x.1.0 y.0 y.2))) x.1.2)
      ] in
      let lasts : Lasts stages more = λ s l x. (x.0, at_longer stages new s x.0 x.1, x.2) in (
        λ j x at. (let t = at_rows (placed k) m c laid j x at in let lane = t.0 in let i = t.1 in let lt = at_below laid i t.2 t.4 in
            subst (λ (y : ℕ × Token T). get_elem? homes y.0 ≡ some (some y.1)) t.5
            (in_lane receivers stages homes lane (c + i) t.2 (each i t.2 t.4) ends t.3 (λ h r at_h. (let f = free h r at_h in omega arith)))),
        apart_rows (placed k) m c laid (λ h g i j a b lh lg li lj ne.
            slots_apart k.size h g (c + i) (c + j) some_slot (omega arith) (omega arith)
            (elim ne [ inl z ↦ inl z | inr z ↦ inr (λ (e : c + i ≡ c + j). z (omega arith)) ])),
        record {
          deep = emptied_length homes xs ∙ L.deep;
          lies = λ q past below is_free. elim (cases_lt q (k.size + c)) [
            | inl inside ↦ (
                let I = L.lies q (omega arith) inside (λ s e. old_out s (is_free s e)) in
                let else_there : (lane : ℕ) → get_elem? (emptied homes xs) (slot_of k lane q) ≡ get_elem? homes (slot_of k lane q) =
                λ lane. emptied_else homes xs (slot_of k lane q)
                (lacks_rows m c laid lane q (λ i lt. (omega arith, omega arith, λ (e : q ≡ c + i). omega arith))) in (
                  I.0,
                  record {
                    laid = laid_lasts stages more q I.0 lasts I.1.laid;
                    keeps = else_there 0 ∙ I.1.keeps;
                    parts = λ h r at away. else_there (suc h) ∙ I.1.parts h r at away;
                  },
                ))
            | inr beyond ↦ absurd (let s = q - k.size in let x = old_out s (is_free s (omega arith)) in let b = at_below stages s x.1.0 x.1.1 in omega arith)
          ];
        },
      )

  -- a sender publishes a sequence: it gives what it keeps of its cell, and every handler its part
  pub publishes_give : (receivers : List (ReceiverRecord T)) (stages : List (Stage T))
      (s : ℕ) (t : Stage T) (l : Lent T) (homes : List (maybe.Option (Token T)))
      → LiesBy k receivers stages homes → length receivers ≡ handlers_of k → get_elem? stages s ≡ some t → t.lent ≡ None → length stages ≤ s + k.size
      → LiesBy k receivers (set stages s (published l t)) (filled homes (rows (placed k) (lanes_of k) s (lent l ∷ [])))
  publishes_give receivers stages s t l homes L ends at unshown near =
      let c = length stages in
      let m = lanes_of k in
      let laid : List (Laid T) = lent l ∷ [] in
      let xs = rows (placed k) m s laid in
      let more = set stages s (published l t) in
      let inside = at_below stages s t at in let len : length more ≡ c = length-set stages s (published l t) in
      let lasts : Lasts stages more = λ z v x. elim (cases_eq z s) [
        | inl e ↦ absurd (let same : t ≡ x.0 = one_value stages s t x.0 at (ap (λ (j : ℕ). get_elem? stages j) (sym e) ∙ x.1) in
            none_or_some t.lent v unshown (ap (λ (y : Stage T). y.lent) same ∙ x.2))
        | inr ne ↦ (x.0, set_else stages s z (published l t) x.0 ne x.1, x.2)
      ] in
      let apart : Apart xs = apart_rows (placed k) m s laid (λ h g i j a b lh lg li lj ne.
      slots_apart k.size h g (s + i) (s + j) some_slot (omega arith) (omega arith)
      (elim ne [ inl z ↦ inl z | inr z ↦ inr (λ (e : s + i ≡ s + j). z (omega arith)) ])) in
      let here : (lane : ℕ) → lane < m
      → get_elem? (filled homes xs) (slot_of k lane (k.size + s)) ≡ some (some (token_of k lane (k.size + s) (lent l))) = λ lane low. (
      let z : s + 0 ≡ s = omega arith in let r = rows_at (placed k) m s laid lane 0 (lent l) low refl in
      let at_s : get_elem? xs r.0 ≡ some (placed k lane s (lent l)) = r.1 ∙ ap (λ (j : ℕ). some (placed k lane j (lent l))) z in
      ap (λ (j : ℕ). get_elem? (filled homes xs) j) (slot_later k.size lane s)
      ∙ filled_here homes xs r.0 (placed k lane s (lent l)) apart at_s
      (let a = inside_lanes k.size (lanes_of k) lane s some_slot low in let d = L.deep in omega arith)
      ∙ ap (λ (y : Token T). some (some y)) (sym (token_later lane s (lent l)))) in record {
        deep = filled_length homes xs ∙ L.deep;
        lies = λ q past below is_free. elim (cases_eq q (k.size + s)) [
          | inl e ↦ subst (λ (z : ℕ). (a : Laid T) × LiesIn k receivers more (filled homes xs) z a) (sym e) (
            lent l,
            record {
              laid = (s, refl, (published l t, set_here stages s (published l t) inside, refl));
              keeps = here 0 (omega arith);
              parts = λ h r there_r away. here (suc h) (let b = at_below receivers h r there_r in omega arith);
            },
          )
          | inr ne ↦ (
              let I = L.lies q (omega arith) (omega arith)
              (λ z e. out_before stages s t l z (λ (same : z ≡ s). ne (e ∙ ap (λ (j : ℕ). k.size + j) same)) (is_free z e)) in
              let else_there : (lane : ℕ) → get_elem? (filled homes xs) (slot_of k lane q) ≡ get_elem? homes (slot_of k lane q) =
              λ lane. filled_else homes xs (slot_of k lane q)
              (lacks_later m s laid lane q (λ i lt. (omega arith, omega arith, λ (e : q ≡ k.size + s + i). ne (omega arith)))) in (
                I.0,
                record {
                  laid = laid_lasts stages more q I.0 lasts I.1.laid;
                  keeps = else_there 0 ∙ I.1.keeps;
                  parts = λ h r at away. else_there (suc h) ∙ I.1.parts h r at away;
                },
              ))
        ];
      }

  -- a receiver's record changes, and what lies in its lane: all else stays
  others_lie : (receivers : List (ReceiverRecord T)) (stages : List (Stage T)) (g : ℕ) (r' : ReceiverRecord T) (homes homes' : List (maybe.Option (Token T)))
      → LiesBy k receivers stages homes → length homes' ≡ length homes
      → ((lane q : ℕ) → suc g ≢ lane → get_elem? homes' (slot_of k lane q) ≡ get_elem? homes (slot_of k lane q))
      → ((q : ℕ) (a : Laid T) → length stages ≤ q → q < k.size + length stages → LiesIn k receivers stages homes q a
      → (q < k.size + r'.completed) ⊎ (k.size + length r'.received ≤ q) → get_elem? homes' (slot_of k (suc g) q) ≡ some (some (token_of k (suc g) q a)))
      → LiesBy k (set receivers g r') stages homes'
  others_lie receivers stages g r' homes homes' L deep other own = record {
    deep = deep ∙ L.deep;
    lies = λ q past below is_free. (let I = L.lies q past below is_free in (
      I.0,
      record {
        laid = I.1.laid;
        keeps = other 0 q (λ (e : suc g ≡ 0). omega arith) ∙ I.1.keeps;
        parts = λ h r there_r away. elim (at_set receivers g h r' r there_r) [
          | inl x ↦ ap (λ (m : ℕ). get_elem? homes' (slot_of k (suc m) q)) x.0
              ∙ own q I.0 past below I.1 (subst (λ (z : ReceiverRecord T). (q < k.size + z.completed) ⊎ (k.size + length z.received ≤ q)) (sym x.1) away)
              ∙ ap (λ (m : ℕ). some (some (token_of k (suc m) q I.0))) (sym x.0)
          | inr x ↦ other (suc h) q (λ (e : suc g ≡ suc h). x.0 (omega arith)) ∙ I.1.parts h r x.1 away
        ];
      },
    ));
  }

  -- a receiver looks, and takes and completes nothing
  pub same_lies : (receivers : List (ReceiverRecord T)) (stages : List (Stage T)) (g : ℕ) (r r' : ReceiverRecord T) (homes : List (maybe.Option (Token T)))
      → LiesBy k receivers stages homes → get_elem? receivers g ≡ some r → r'.completed ≡ r.completed → length r'.received ≡ length r.received
      → LiesBy k (set receivers g r') stages homes
  same_lies receivers stages g r r' homes L at done took =
      others_lie receivers stages g r' homes homes L refl (λ lane q ne. refl)
      (λ q a past below I away. I.parts g r at (elim away [ inl z ↦ inl (omega arith) | inr z ↦ inr (omega arith) ]))

  -- an event that was lent lies in its cell
  is_lent : (receivers : List (ReceiverRecord T)) (stages : List (Stage T)) (homes : List (maybe.Option (Token T))) (s : ℕ) (l : Lent T) (a : Laid T)
      → LiesIn k receivers stages homes (k.size + s) a
      → IsOutWith stages s l → a ≡ lent l
  is_lent receivers stages homes s l (unlent x) I out = absurd (let lt = I.laid.0 in omega arith)
  is_lent receivers stages homes s l (lent m) I out =
      let z : I.laid.0 ≡ s = (let e = I.laid.1 in omega arith) in
      ap (λ (y : Lent T). lent y) (one_lent stages s m l (subst (λ (j : ℕ). IsOutWith stages j m) z I.laid.2) out)

  -- a receiver takes its parts of the next events
  pub receiver_takes : (receivers : List (ReceiverRecord T)) (stages : List (Stage T)) (g : ℕ)
      (lents : List (Lent T)) (r r' : ReceiverRecord T) (homes : List (maybe.Option (Token T)))
      → LiesBy k receivers stages homes → Counts k stages r → get_elem? receivers g ≡ some r
      → ((i : ℕ) (l : Lent T) → get_elem? lents i ≡ some l → IsOutWith stages (length r.received + i) l)
      → r'.completed ≡ r.completed → length r'.received ≡ length r.received + length lents
      → AreHome homes (stretch (placed k (suc g)) (length r.received) (lent_all lents))
      × Apart (stretch (placed k (suc g)) (length r.received) (lent_all lents))
      × LiesBy k (set receivers g r') stages (emptied homes (stretch (placed k (suc g)) (length r.received) (lent_all lents)))
  receiver_takes receivers stages g lents r r' homes L C at each same longer =
      let s = length r.received in
      let laid = lent_all lents in
      let xs = stretch (placed k (suc g)) s laid in
      let held = C.held in
      let room = C.room in
      let c = length stages in
      let len : length laid ≡ length lents = length-map lents (λ (l : Lent T). lent l) in
      let low : (i : ℕ) → i < length laid → s + i < c =
      λ i lt. (let t = there lents i (omega arith) in let x = each i t.0 t.1 in at_below stages (s + i) x.0 x.1) in (
        λ j x at_x. (let t = at_stretch (placed k (suc g)) s laid j x at_x in let o = at_map (λ (l : Lent T). lent l) lents j t.0 t.1 in
            let q = k.size + (s + j) in let m = low j (at_below laid j t.0 t.1) in let out = each j o.0 o.1 in
            let I = L.lies q (omega arith) (omega arith)
            (λ z e. (let same : s + j ≡ z = omega arith in (o.0, subst (λ (y : ℕ). IsOutWith stages y o.0) same out))) in
            let is : I.0 ≡ t.0 = is_lent receivers stages homes (s + j) o.0 I.0 I.1 out ∙ o.2 in
            subst (λ (y : ℕ × Token T). get_elem? homes y.0 ≡ some (some y.1)) t.2
            (ap (λ (z : ℕ). get_elem? homes z) (sym (slot_later k.size (suc g) (s + j)))
            ∙ I.1.parts g r at (inr (omega arith))
            ∙ ap (λ (y : Token T). some (some y)) (token_later (suc g) (s + j) I.0 ∙ ap (token_of k (suc g) (s + j)) is))),
        apart_stretch (placed k (suc g)) s laid (λ i j a b lt below. (let m = low j below in
            slots_apart k.size (suc g) (suc g) (s + j) (s + i) some_slot (omega arith) (omega arith) (inr (λ (e : s + j ≡ s + i). omega arith)))),
        others_lie receivers stages g r' homes (emptied homes xs) L (emptied_length homes xs)
            (λ lane q ne. emptied_else homes xs (slot_of k lane q) (lacks_stretch (suc g) s laid lane q (λ i lt. inl ne)))
            (λ q a past below I away. (
            let was : (q < k.size + r.completed) ⊎ (k.size + s ≤ q) = elim away [ inl z ↦ inl (omega arith) | inr z ↦ inr (omega arith) ] in
            emptied_else homes xs (slot_of k (suc g) q) (lacks_stretch (suc g) s laid (suc g) q (λ i lt. inr (let m = low i lt in elim away [
              | inl z ↦ (omega arith, omega arith, λ (e : q ≡ k.size + s + i). omega arith)
              | inr z ↦ (omega arith, omega arith, λ (e : q ≡ k.size + s + i). omega arith)
            ]))) ∙ I.parts g r at was)),
      )

  -- a receiver gives its parts of the events that it completes
  pub receiver_gives : (receivers : List (ReceiverRecord T)) (stages : List (Stage T)) (g : ℕ)
      (done : List (Lent T)) (r r' : ReceiverRecord T) (homes : List (maybe.Option (Token T)))
      → LiesBy k receivers stages homes → Counts k stages r → length r.received ≤ length stages → get_elem? receivers g ≡ some r → g < handlers_of k
      → ((i : ℕ) (l : Lent T) → get_elem? done i ≡ some l → IsOutWith stages (r.completed + i) l)
      → length r'.received ≡ length r.received → r'.completed ≡ r.completed + length done → r'.completed ≤ length r.received
      → LiesBy k (set receivers g r') stages (filled homes (stretch (placed k (suc g)) r.completed (lent_all done)))
  receiver_gives receivers stages g done r r' homes L C claimed at inside each same longer within =
      let s = r.completed in
      let laid = lent_all done in
      let xs = stretch (placed k (suc g)) s laid in
      let held = C.held in
      let room = C.room in
      let c = length stages in
      let len : length laid ≡ length done = length-map done (λ (l : Lent T). lent l) in
      let apart : Apart xs = apart_stretch (placed k (suc g)) s laid (λ i j a b lt below.
      slots_apart k.size (suc g) (suc g) (s + j) (s + i) some_slot (omega arith) (omega arith) (inr (λ (e : s + j ≡ s + i). omega arith))) in
      others_lie receivers stages g r' homes (filled homes xs) L (filled_length homes xs)
      (λ lane q ne. filled_else homes xs (slot_of k lane q) (lacks_stretch (suc g) s laid lane q (λ i lt. inl ne)))
      (λ q a past below I away.
      let old : (q < k.size + s) ⊎ (k.size + length r.received ≤ q)
      → get_elem? (filled homes xs) (slot_of k (suc g) q) ≡ some (some (token_of k (suc g) q a)) = λ was.
      filled_else homes xs (slot_of k (suc g) q) (lacks_stretch (suc g) s laid (suc g) q (λ i lt. inr (elim was [
        | inl z ↦ (omega arith, omega arith, λ (e : q ≡ k.size + s + i). omega arith)
        | inr z ↦ (omega arith, omega arith, λ (e : q ≡ k.size + s + i). omega arith)
      ]))) ∙ I.parts g r at was in
      elim away [
        | inr z ↦ old (inr (omega arith))
        | inl z ↦ elim (cases_lt q (k.size + s)) [
          | inl y ↦ old (inl y)
          | inr y ↦ (
              let i = q - (k.size + s) in let t = there done i (omega arith) in let e : q ≡ k.size + (s + i) = omega arith in
              let is : a ≡ lent t.0 =
              is_lent receivers stages homes (s + i) t.0 a (subst (λ (x : ℕ). LiesIn k receivers stages homes x a) e I) (each i t.0 t.1) in
              let at_i = stretch_at (placed k (suc g)) s laid i (lent t.0) (map_there (λ (l : Lent T). lent l) done i t.0 t.1) in
              ap (λ (x : ℕ). get_elem? (filled homes xs) x) (ap (slot_of k (suc g)) e ∙ slot_later k.size (suc g) (s + i))
              ∙ filled_here homes xs i (placed k (suc g) (s + i) (lent t.0)) apart at_i
              (let w : suc g < lanes_of k = omega arith in
              let b = inside_lanes k.size (lanes_of k) (suc g) (s + i) some_slot w in let d = L.deep in omega arith)
              ∙ ap (λ (y : Token T). some (some y))
              (sym (ap (λ (x : ℕ). token_of k (suc g) x a) e ∙ token_later (suc g) (s + i) a ∙ ap (token_of k (suc g) (s + i)) is)))
        ]
      ])
