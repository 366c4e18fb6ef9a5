-- A new ring's ends.
use Rattle.std.proofs.Common.{length-set, set, ◌≡◌, ℕ, zero, suc, ◌+◌, ◌-◌, ◌<◌, ◌≤◌, List, [], ◌∷◌, ◌++◌, map, length}
use Rattle.std.proofs.Common.{get_or, replicate, sym, refl, ap, ◌∙◌, subst, arith, append_assoc, inl, inr}
use Rattle.std.proofs.lemmas.List.{length-map, length-replicate}
use Rattle.atomic_table.specs.Table.{opening as table_opening}
use Rattle.atomic_table.specs.Seated.{TableId}
use Rattle.dr_runs.specs.Seats.{seat_at, fresh_seat, first_view, rest_view}
use Rattle.dr_runs.proofs.Lists.{at_map}
use Rattle.dr_runs.proofs.Cuts.{ruled_fresh}
use Rattle.dr_ring.specs.Meaning.Shape.{Shape, IsShape, handlers_of}
use Rattle.dr_ring.specs.Meaning.Words.{words_of}
use Rattle.dr_ring.specs.Calls.Plans.{IsPlan}
use Rattle.dr_ring.specs.declared.record.SenderRecord.{SenderRecord}
use Rattle.dr_ring.specs.declared.record.ReceiverRecord.{ReceiverRecord}
use Rattle.dr_ring.specs.declared.record.EndRecord.{EndRecord}
use Rattle.dr_ring.specs.declared.record.EndRecord.TheVariants.{Sends, Receives, Halts}
use Rattle.dr_ring.specs.Meaning.Moments.{fresh_sender, fresh_receiver, fresh_receivers, fresh_halter, new_world}
use Rattle.dr_ring.specs.Inside.Seats.{End, Sitting, end_number, Stands, exchange, Ruled, known_receivers, fresh_ends, all_ends, IsAtTable, as_receiver}
use Rattle.dr_ring.specs.Calls.Ends.{SenderEnd, ReceiverEnd, HalterEnd, SenderPlace, sender_place}
use Rattle.dr_ring.specs.Inside.Stations.{receiver_end, ReceiverSits}
use Rattle.dr_ring.specs.Calls.Settling.{AreAllEnds}
use Rattle.dr_runs.proofs.Elements.{there, value_at, each_set}
use Rattle.std.proofs.lemmas.Bool.{cases_lt}
use Rattle.dr_ring.proofs.Beginning.{fresh_at, fresh_count}
use mathlib.Core.Option.{some, some-injective}
use lib.ListN.{get_elem?}
use Rattle.dr_ring.specs.Calls.Making.{receiver_at_ring, AreFreshEnds}

-- where each end stands in the first view
stands_fresh : (k : Shape) (j : ℕ) (e : EndRecord) → get_elem? (fresh_ends k) j ≡ some e → (end_number e ≡ j) × Stands (new_world k) e
stands_fresh k zero e at = subst (λ (x : EndRecord). (end_number x ≡ 0) × Stands (new_world k) x) (some-injective (Sends (fresh_sender k)) e at) (refl, refl)
stands_fresh k (suc zero) e at =
    subst (λ (x : EndRecord). (end_number x ≡ 1) × Stands (new_world k) x) (some-injective (Halts (fresh_halter k)) e at) (refl, refl)
stands_fresh k (suc (suc j)) e at =
    let rs = fresh_receivers k 0 (handlers_of k) in let t = at_map (λ (r : ReceiverRecord). Receives r) rs j e at in
    let number : t.0.number ≡ j = ap (λ (r : ReceiverRecord). r.number) (fresh_at k 0 (handlers_of k) j t.0 t.1) ∙ omega arith in
    subst (λ (x : EndRecord). (end_number x ≡ suc (suc j)) × Stands (new_world k) x) t.2
    ((let g = number in omega arith), ap (λ (m : ℕ). get_elem? rs m) number ∙ t.1)

-- a new ring keeps the rule
pub ruled_new : (k : Shape) (ws : List ℕ) → ws ≡ replicate (words_of k) 0 → IsShape k → Ruled k (table_opening ws [] (all_ends k))
ruled_new k ws is shape = ruled_fresh (exchange k) (fresh_ends k) (λ n. n) ws [] (sym is) tt shape (stands_fresh k)

-- the next of the receivers
fresh_next : (k : Shape) (h n : ℕ) → h < n → fresh_receivers k h (n - h) ≡ fresh_receiver k h ∷ fresh_receivers k (h + 1) (n - (h + 1))
fresh_next k h n lt = let a : n - h ≡ suc (n - (h + 1)) = omega arith in let b : suc h ≡ h + 1 = omega arith in
    ap (fresh_receivers k h) a ∙ ap (λ (m : ℕ). fresh_receiver k h ∷ fresh_receivers k m (n - (h + 1))) b

abbrev first_cut : Sitting → Sitting
first_cut m = (first_view m.0, m.1)

abbrev rest_cut : Sitting → Sitting
rest_cut m = (rest_view m.0, [])

-- a receiver that has not stepped
abbrev pub own_seat : Shape → ℕ → Sitting
own_seat k h = seat_at (as_receiver (fresh_receiver k h)) ([] ∷ [])

abbrev seat_for : List ReceiverRecord → Sitting
seat_for rs = fresh_seat (map (λ r. Receives r) rs)

pub cut_own : (k : Shape) (h n : ℕ) (me me' : Sitting) → h < n → me ≡ fresh_seat (known_receivers k h (n - h)) → me' ≡ first_cut me → me' ≡ own_seat k h
cut_own k h n me me' lt was is = is ∙ ap first_cut was ∙ ap (λ (rs : List ReceiverRecord). first_cut (seat_for rs)) (fresh_next k h n lt)

pub cut_rest : (k : Shape) (h n : ℕ) (me me' : Sitting) → h < n → me ≡ fresh_seat (known_receivers k h (n - h)) → me' ≡ rest_cut me
    → me' ≡ fresh_seat (known_receivers k (h + 1) (n - (h + 1)))
cut_rest k h n me me' lt was is = is ∙ ap rest_cut was ∙ ap (λ (rs : List ReceiverRecord). rest_cut (seat_for rs)) (fresh_next k h n lt)

pub sits_fresh : (at own : TableId) (me : End) (k : Shape) (h : ℕ) → IsAtTable own at k → IsPlan k → h < handlers_of k
    → me ≡ as_receiver (fresh_receiver k h) → ReceiverSits at own k me h 0
sits_fresh at own me k h table made lt is = subst (λ (m : End). ReceiverSits at own k m h 0) (sym is) (record {
  table = table;
  made = made;
  end = refl;
  plan = refl;
  own = refl;
  handler = lt;
  looks = refl;
})

abbrev zeros : ℕ → List ℕ
zeros n = replicate n 0

pub listed_next : (t : TableId) (k : Shape) (h n : ℕ) (items new : List ReceiverEnd) (e : ReceiverEnd) (all : List ReceiverEnd) → h < n
    → items ++ map (receiver_at_ring t) (fresh_receivers k h (n - h)) ≡ all → new ≡ items ++ e ∷ [] → e ≡ receiver_at_ring t (fresh_receiver k h)
    → new ++ map (receiver_at_ring t) (fresh_receivers k (h + 1) (n - (h + 1))) ≡ all
listed_next t k h n items new e all lt was is own =
    let rest = map (receiver_at_ring t) (fresh_receivers k (h + 1) (n - (h + 1))) in
    ap (λ (xs : List ReceiverEnd). xs ++ rest) (is ∙ ap (λ (x : ReceiverEnd). items ++ x ∷ []) own)
    ∙ append_assoc items (receiver_at_ring t (fresh_receiver k h) ∷ []) rest
    ∙ ap (λ (rs : List ReceiverRecord). items ++ map (receiver_at_ring t) rs) (sym (fresh_next k h n lt)) ∙ was

pub view_fresh : (t own : TableId) (me : Sitting) (k : Shape) (h : ℕ) → own ≡ t → me ≡ own_seat k h → receiver_end own me ≡ receiver_at_ring t (fresh_receiver k h)
view_fresh t own me k h same is = λ i. receiver_end (same i) (is i)

pub some_words : (k : Shape) (n : ℕ) (ws : List ℕ) → n ≡ length ws → ws ≡ replicate (words_of k) 0 → 0 < n
some_words k n ws count is = let z : ℕ = 0 in let same = ap length is in let len = length-replicate (words_of k) z in omega arith

fresh_end : (k : Shape) (t : TableId) (h n i : ℕ) (e : ReceiverEnd) → get_elem? (map (receiver_at_ring t) (fresh_receivers k h n)) i ≡ some e
    → (e.ring ≡ t) × (e.knows.number ≡ h + i)
fresh_end k t h zero i e at = absurd (cc)
fresh_end k t h (suc n) zero e at =
    subst (λ (x : ReceiverEnd). (x.ring ≡ t) × (x.knows.number ≡ h + 0)) (some-injective (receiver_at_ring t (fresh_receiver k h)) e at) (refl, omega arith)
fresh_end k t h (suc n) (suc i) e at = let r = fresh_end k t (suc h) n i e at in let m = r.1 in (r.0, omega arith)

-- the ends of a new ring are all of its ends
pub all_fresh : (k : Shape) (s : SenderEnd) (rs : List ReceiverEnd) (t : HalterEnd) → AreFreshEnds k s rs t → AreAllEnds s rs t
all_fresh k s rs t F = record {
  receivers = record {
    all = ap length F.receivers ∙ length-map (fresh_receivers k 0 (handlers_of k)) (receiver_at_ring s.ring) ∙ fresh_count k 0 (handlers_of k)
        ∙ sym (ap (λ (q : SenderRecord). handlers_of q.plan) F.sender);
    each = λ h e at. (
        let x : (e.ring ≡ s.ring) × (e.knows.number ≡ 0 + h) =
        fresh_end k s.ring 0 (handlers_of k) h e (subst (λ (xs : List ReceiverEnd). get_elem? xs h ≡ some e) F.receivers at) in
        let m = x.1 in (x.0, omega arith));
  };
  halter = ap (λ (x : HalterEnd). x.ring) F.halter;
}

-- and they stay so where the sender, or a receiver, stays at its place
pub all_sender : (s s' : SenderEnd) (rs : List ReceiverEnd) (t : HalterEnd) → AreAllEnds s rs t → sender_place s' ≡ sender_place s → AreAllEnds s' rs t
all_sender s s' rs t A same = record {
  receivers = record {
    all = A.receivers.all ∙ ap (λ (p : SenderPlace). handlers_of p.1) (sym same);
    each = λ h e at. (let was = A.receivers.each h e at in (was.0 ∙ ap (λ (p : SenderPlace). p.0) (sym same), was.1));
  };
  halter = A.halter ∙ ap (λ (p : SenderPlace). p.0) (sym same);
}

pub all_receiver : (s : SenderEnd) (rs : List ReceiverEnd) (t : HalterEnd) (h : ℕ) (e e' : ReceiverEnd) → AreAllEnds s rs t → get_elem? rs h ≡ some e
    → e'.ring ≡ e.ring
    → e'.knows.number ≡ e.knows.number → AreAllEnds s (set rs h e') t
all_receiver s rs t h e e' A here ring number = record {
  receivers = record {
    all = length-set rs h e' ∙ A.receivers.all;
    each = each_set (λ j x. (x.ring ≡ s.ring) × (x.knows.number ≡ j)) rs h e'
        (let was = A.receivers.each h e here in (ring ∙ was.0, number ∙ was.1)) (λ j x ne at. A.receivers.each j x at);
  };
  halter = A.halter;
}

set_past : (rs : List ReceiverEnd) (h : ℕ) (e : ReceiverEnd) → length rs ≤ h → set rs h e ≡ rs
set_past [] h e le = refl
set_past (r ∷ rs) zero e le = absurd (omega arith)
set_past (r ∷ rs) (suc h) e le = ap (λ (xs : List ReceiverEnd). r ∷ xs) (set_past rs h e (omega arith))

pub all_receiver_at : (s : SenderEnd) (rs : List ReceiverEnd) (t : HalterEnd) (h : ℕ) (e e' : ReceiverEnd) → AreAllEnds s rs t → e ≡ get_or rs h e
    → e'.ring ≡ e.ring
    → e'.knows.number ≡ e.knows.number → AreAllEnds s (set rs h e') t
all_receiver_at s rs t h e e' A at ring number =
    elim (cases_lt h (length rs)) [
      | inl lt ↦ (let x = there rs h lt in let same : x.0 ≡ e = sym (at ∙ value_at rs h x.0 e x.1) in
          all_receiver s rs t h e e' A (x.1 ∙ ap (λ (y : ReceiverEnd). some y) same) ring number)
      | inr past ↦ subst (λ (xs : List ReceiverEnd). AreAllEnds s xs t) (sym (set_past rs h e' past)) A
    ]
