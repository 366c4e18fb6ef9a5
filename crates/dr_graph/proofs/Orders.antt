-- Placing handlers one after another: what an order keeps, why being stuck means a cycle, and why an order of all means none.
use Rattle.std.proofs.Common.{
  ◌≡◌,
  ℕ,
  zero,
  suc,
  ◌+◌,
  ◌<◌,
  ◌≤◌,
  inl,
  inr,
  Bool,
  true,
  false,
  List,
  [],
  ◌∷◌,
  ◌++◌,
  arith,
  refl,
  sym,
  ◌∙◌,
  ap,
  take,
  length,
  slice_index,
  subst,
}
use Rattle.std.proofs.lemmas.Bool.{
  false≢true,
  true≢false,
  eqb-true,
  eq-eqb,
  ne_eqb,
  or_cases,
  or_parts,
  or_left,
  or_right,
  and_parts,
  and_cases,
  and_from,
  not-true,
  not-false,
  cases_lt,
  cases_order,
}
use Rattle.std.proofs.lemmas.List.{take-append-le, get_or_append_left, get_or_push, length_push}
use Rattle.std.proofs.Math.Seq.{take-append_seam}
use Rattle.std.proofs.lemmas.List.Folds.{list_any-append}
use Rattle.std.specs.Prelude.{◌==◌, ◌||◌, ◌&&◌, not}
use Rattle.std.specs.List.{list_all}
use Rattle.dr_graph.specs.declared.edge.Edge.{Edge}
use Rattle.dr_graph.specs.Meaning.Order.{is_in, is_upstream, is_ready, IsPath, HasCycle, AreWithin, IsNext, IsInOrder, IsBuiltOrder}
use Rattle.dr_graph.proofs.Spare.{spare, spare_some, spare_falls, spare_full, spare_none}
use Rattle.dr_graph.proofs.Cycles.{walk}

-- what is in a list with one more at its end
pub in_push_here : (hs : List ℕ) (h : ℕ) → is_in (hs ++ h ∷ []) h ≡ true
in_push_here hs h = list_any-append (λ k. k == h) hs (h ∷ []) ∙ or_right (is_in hs h) ((h == h) || false) (or_left (h == h) false (eq-eqb h h refl))

or_false : (x b : Bool) → b ≡ false → (x || (b || false)) ≡ x
or_false true b e = refl
or_false false b e = ap (λ c. c || false) e

pub in_push_other : (hs : List ℕ) (h k : ℕ) → (k ≡ h → ⊥) → is_in (hs ++ h ∷ []) k ≡ is_in hs k
in_push_other hs h k ne = list_any-append (λ j. j == k) hs (h ∷ []) ∙ or_false (is_in hs k) (h == k) (ne_eqb h k (λ e. ne (sym e)))

pub in_take : (xs : List ℕ) (k h : ℕ) → is_in (take k xs) h ≡ true → (j : ℕ) × (j < k) × (j < length xs) × (slice_index xs j ≡ h)
in_take [] zero h there = absurd (false≢true there)
in_take [] (suc k) h there = absurd (false≢true there)
in_take (x ∷ xs) zero h there = absurd (false≢true there)
in_take (x ∷ xs) (suc k) h there =
    elim (or_cases (x == h) (is_in (take k xs) h) there) [
      | inl here ↦ (0, omega arith, omega arith, eqb-true x h here)
      | inr later ↦ (let rest : (j : ℕ) × (j < k) × (j < length xs) × (slice_index xs j ≡ h) = in_take xs k h later in (suc rest.0, omega arith, omega arith, rest.3))
    ]

pub at_in : (xs : List ℕ) (k j h : ℕ) → j < k → j < length xs → slice_index xs j ≡ h → is_in (take k xs) h ≡ true
at_in [] k j h lt within e = absurd (omega arith)
at_in (x ∷ xs) zero j h lt within e = absurd (omega arith)
at_in (x ∷ xs) (suc k) zero h lt within e = or_left (x == h) (is_in (take k xs) h) (eq-eqb x h e)
at_in (x ∷ xs) (suc k) (suc j) h lt within e = or_right (x == h) (is_in (take k xs) h) (at_in xs k j h (omega arith) (omega arith) e)

pub in_at : (xs : List ℕ) (h : ℕ) → is_in xs h ≡ true → (j : ℕ) × (j < length xs) × (slice_index xs j ≡ h)
in_at [] h there = absurd (false≢true there)
in_at (x ∷ xs) h there =
    elim (or_cases (x == h) (is_in xs h) there) [
      | inl here ↦ (0, omega arith, eqb-true x h here)
      | inr later ↦ (let rest : (j : ℕ) × (j < length xs) × (slice_index xs j ≡ h) = in_at xs h later in (suc rest.0, omega arith, rest.2))
    ]

pub in_more : (xs : List ℕ) (j k h : ℕ) → j ≤ k → is_in (take j xs) h ≡ true → is_in (take k xs) h ≡ true
in_more xs j k h le there =
    let found : (i : ℕ) × (i < j) × (i < length xs) × (slice_index xs i ≡ h) = in_take xs j h there in
    at_in xs k found.0 h (omega arith) found.2 found.3

-- what it is to be ready, and what it is not to be
pub ready_unplaced : (edges : List Edge) (placed : List ℕ) (h : ℕ) → is_ready edges placed h ≡ true → is_in placed h ≡ false
ready_unplaced edges placed h ready = not-true (is_in placed h) (and_parts (not (is_in placed h)) _ ready).0

upstream_placed : (edges : List Edge) (placed : List ℕ) (u h : ℕ) → list_all (λ e. not (e.down == h) || is_in placed e.up) edges ≡ true
    → is_upstream edges u h ≡ true → is_in placed u ≡ true
upstream_placed [] placed u h all edge = absurd (false≢true edge)
upstream_placed (e ∷ es) placed u h all edge =
    let parts : ((not (e.down == h) || is_in placed e.up) ≡ true) × (list_all (λ f. not (f.down == h) || is_in placed f.up) es ≡ true) =
    and_parts (not (e.down == h) || is_in placed e.up) _ all in
    elim (or_cases ((e.up == u) && (e.down == h)) (is_upstream es u h) edge) [
      | inl here ↦ (
          let ends : ((e.up == u) ≡ true) × ((e.down == h) ≡ true) = and_parts (e.up == u) (e.down == h) here in
          let same : e.up ≡ u = eqb-true e.up u ends.0 in
          elim (or_cases (not (e.down == h)) (is_in placed e.up) parts.0) [
            | inl other ↦ absurd (false≢true (sym (not-true (e.down == h) other) ∙ ends.1))
            | inr up ↦ ap (is_in placed) (sym same) ∙ up
          ])
      | inr later ↦ upstream_placed es placed u h parts.1 later
    ]

pub ready_upstream : (edges : List Edge) (placed : List ℕ) (u h : ℕ) → is_ready edges placed h ≡ true → is_upstream edges u h ≡ true → is_in placed u ≡ true
ready_upstream edges placed u h ready edge = upstream_placed edges placed u h (and_parts (not (is_in placed h)) _ ready).1 edge

missing : (edges : List Edge) (placed : List ℕ) (h : ℕ) → list_all (λ e. not (e.down == h) || is_in placed e.up) edges ≡ false
    → (u : ℕ) × (is_in placed u ≡ false) × (is_upstream edges u h ≡ true)
missing [] placed h some = absurd (true≢false some)
missing (e ∷ es) placed h some =
    elim (and_cases (not (e.down == h) || is_in placed e.up) _ some) [
      | inl here ↦ (
          let parts : (not (e.down == h) ≡ false) × (is_in placed e.up ≡ false) = or_parts (not (e.down == h)) (is_in placed e.up) here in
          (e.up, parts.1, or_left _ (is_upstream es e.up h) (and_from (e.up == e.up) (e.down == h) (eq-eqb e.up e.up refl) (not-false (e.down == h) parts.0))))
      | inr later ↦ (
          let rest : (u : ℕ) × (is_in placed u ≡ false) × (is_upstream es u h ≡ true) = missing es placed h later in
          (rest.0, rest.1, or_right ((e.up == rest.0) && (e.down == h)) (is_upstream es rest.0 h) rest.2))
    ]

pub unready_upstream : (edges : List Edge) (placed : List ℕ) (h : ℕ) → is_in placed h ≡ false → is_ready edges placed h ≡ false
    → (u : ℕ) × (is_in placed u ≡ false) × (is_upstream edges u h ≡ true)
unready_upstream edges placed h unplaced unready =
    elim (and_cases (not (is_in placed h)) _ unready) [
      | inl is_placed ↦ absurd (false≢true (sym unplaced ∙ not-false (is_in placed h) is_placed))
      | inr some ↦ missing edges placed h some
    ]

-- stuck with handlers left: there is a cycle
pub stuck : (count : ℕ) (edges : List Edge) (placed : List ℕ) → AreWithin count edges → 0 < spare (is_in placed) count
    → ((j : ℕ) → j < count → is_ready edges placed j ≡ false) → HasCycle edges
stuck count edges placed within some unready =
    let start : (h : ℕ) × (h < count) × (is_in placed h ≡ false) = spare_some (is_in placed) count some in
    walk edges count (λ h. (h < count) × (is_in placed h ≡ false))
    (λ h left.
    let u : (u : ℕ) × (is_in placed u ≡ false) × (is_upstream edges u h ≡ true) = unready_upstream edges placed h left.1 (unready h left.0) in
    (u.0, (within u.0 h u.2).0, ((within u.0 h u.2).0, u.1), u.2))
    (spare (is_in (start.0 ∷ [])) count) start.0 [] (start.1, start.2) tt (omega arith)

-- one more in order
pub in_order_push : (count : ℕ) (edges : List Edge) (order : List ℕ) (h : ℕ) → IsInOrder count edges order → IsNext count edges order h
    → IsInOrder count edges (order ++ h ∷ [])
in_order_push count edges order h old next k lt =
    elim (cases_lt k (length order)) [
      | inl below ↦ (
          let le : k ≤ length order = omega arith in
          let front : take k (order ++ h ∷ []) ≡ take k order = take-append-le k order (h ∷ []) le in
          let here : slice_index (order ++ h ∷ []) k ≡ slice_index order k = get_or_append_left order (h ∷ []) 0 k below in
          subst (λ (xs : List ℕ). IsNext count edges xs (slice_index (order ++ h ∷ []) k)) (sym front) (subst (λ (x : ℕ). IsNext count edges (take k order) x) (sym here) (old k below)))
      | inr above ↦ (
          let longer : length (order ++ h ∷ []) ≡ length order + 1 = length_push order h in
          let last : length order ≡ k = omega arith in
          let front : take k (order ++ h ∷ []) ≡ order = ap (λ n. take n (order ++ h ∷ [])) (sym last) ∙ take-append_seam order (h ∷ []) in
          let here : slice_index (order ++ h ∷ []) k ≡ h = get_or_push order h 0 k last in
          subst (λ (xs : List ℕ). IsNext count edges xs (slice_index (order ++ h ∷ []) k)) (sym front) (subst (λ (x : ℕ). IsNext count edges order x) (sym here) next))
    ]

-- along a path to an entry, all others are before it
earlier :
    (count : ℕ) (edges : List Edge) (order : List ℕ) → IsInOrder count edges order
    → (k : ℕ) → k < length order → (from : ℕ) (between : List ℕ) → IsPath edges from (between ++ slice_index order k ∷ []) → is_in (take k order) from ≡ true
earlier count edges order each k lt from [] path = ready_upstream edges (take k order) from (slice_index order k) (each k lt).ready path.0
earlier count edges order each k lt from (h ∷ hs) path =
    let after : is_in (take k order) h ≡ true = earlier count edges order each k lt h hs path.1 in
    let place : (j : ℕ) × (j < k) × (j < length order) × (slice_index order j ≡ h) = in_take order k h after in
    let edge : is_upstream edges from (slice_index order place.0) ≡ true = ap (is_upstream edges from) place.3 ∙ path.0 in
    in_more order place.0 k from (omega arith) (ready_upstream edges (take place.0 order) from (slice_index order place.0) (each place.0 place.2).ready edge)

leaves : (edges : List Edge) (from : ℕ) (between : List ℕ) (h : ℕ) → IsPath edges from (between ++ h ∷ []) → (d : ℕ) × (is_upstream edges from d ≡ true)
leaves edges from [] h path = (h, path.0)
leaves edges from (d ∷ hs) h path = (d, path.0)

-- an order of all handlers: there is no cycle
pub no_cycle : (count : ℕ) (edges : List Edge) (order : List ℕ) → AreWithin count edges → IsBuiltOrder count edges order → HasCycle edges → ⊥
no_cycle count edges order within built cycle =
    let out : (d : ℕ) × (is_upstream edges cycle.handler d ≡ true) = leaves edges cycle.handler cycle.between cycle.handler cycle.path in
    let place : (k : ℕ) × (k < length order) × (slice_index order k ≡ cycle.handler) =
    in_at order cycle.handler (built.all cycle.handler (within cycle.handler out.0 out.1).0) in
    let path : IsPath edges cycle.handler (cycle.between ++ slice_index order place.0 ∷ []) =
    subst (λ (x : ℕ). IsPath edges cycle.handler (cycle.between ++ x ∷ [])) (sym place.2) cycle.path in
    let before : is_in (take place.0 order) cycle.handler ≡ true = earlier count edges order built.each place.0 place.1 cycle.handler cycle.between path in
    let unplaced : is_in (take place.0 order) (slice_index order place.0) ≡ false =
    ready_unplaced edges (take place.0 order) (slice_index order place.0) (built.each place.0 place.1).ready in
    false≢true (sym unplaced ∙ ap (is_in (take place.0 order)) place.2 ∙ before)

-- no entry stands twice
pub once : (count : ℕ) (edges : List Edge) (order : List ℕ) → IsInOrder count edges order → (i j : ℕ) → i < length order → j < length order
    → slice_index order i ≡ slice_index order j → i ≡ j
once count edges order each i j li lj same =
    elim (cases_order i j) [
      | inl e ↦ e
      | inr o ↦ elim o [
        | inl l ↦ absurd (false≢true (sym (ready_unplaced edges (take j order) (slice_index order j) (each j lj).ready) ∙ at_in order j i (slice_index order j) l li same))
        | inr g ↦ absurd (false≢true (sym (ready_unplaced edges (take i order) (slice_index order i) (each i li).ready) ∙ at_in order i j (slice_index order i) g lj (sym same)))
      ]
    ]

-- an upstream stands earlier
pub upstream_earlier : (count : ℕ) (edges : List Edge) (order : List ℕ) → IsInOrder count edges order → (u h : ℕ) → u < length order
    → h < length order → is_upstream edges (slice_index order u) (slice_index order h) ≡ true → u < h
upstream_earlier count edges order each u h lu lh edge =
    let before : is_in (take h order) (slice_index order u) ≡ true =
    ready_upstream edges (take h order) (slice_index order u) (slice_index order h) (each h lh).ready edge in
    let place : (j : ℕ) × (j < h) × (j < length order) × (slice_index order j ≡ slice_index order u) = in_take order h (slice_index order u) before in
    let same : place.0 ≡ u = once count edges order each place.0 u place.2 lu place.3 in
    omega arith

-- what holds while handlers are placed
pub record IsPlacing (count : ℕ) (edges : List Edge) (placed : List ℕ) : Type 0 where
  pub each : IsInOrder count edges placed
  pub left : spare (is_in placed) count + length placed ≡ count

pub starts : (count : ℕ) (edges : List Edge) (placed : List ℕ) → placed ≡ [] → IsPlacing count edges placed
starts count edges placed none =
    subst (λ (xs : List ℕ). IsPlacing count edges xs) (sym none)
    (record { each = λ k lt. absurd (omega (arith, lt)); left = (let all : spare (is_in []) count ≡ count = spare_full (is_in []) count (λ k. refl) in omega arith) })

pub goes_on : (count : ℕ) (edges : List Edge) (placed : List ℕ) (h : ℕ) (longer : List ℕ) → IsPlacing count edges placed → IsNext count edges placed h
    → longer ≡ placed ++ h ∷ [] → IsPlacing count edges longer
goes_on count edges placed h longer old next e =
    subst (λ (xs : List ℕ). IsPlacing count edges xs) (sym e)
    (record {
      each = in_order_push count edges placed h old.each next;
      left = (
          let fewer : spare (is_in (placed ++ h ∷ [])) count + 1 ≡ spare (is_in placed) count =
          spare_falls (is_in placed) (is_in (placed ++ h ∷ [])) h count next.declared (ready_unplaced edges placed h next.ready) (in_push_here placed h) (λ k ne. in_push_other placed h k ne) in
          let more : length (placed ++ h ∷ []) ≡ length placed + 1 = length_push placed h in
          let was : spare (is_in placed) count + length placed ≡ count = old.left in
          omega arith);
    })

pub halts_stuck : (count : ℕ) (edges : List Edge) (placed : List ℕ) → AreWithin count edges → IsPlacing count edges placed → length placed < count
    → ((j : ℕ) → j < count → is_ready edges placed j ≡ false) → HasCycle edges
halts_stuck count edges placed within old some unready =
    stuck count edges placed within (let was : spare (is_in placed) count + length placed ≡ count = old.left in omega arith) unready

pub halts_whole : (count : ℕ) (edges : List Edge) (placed : List ℕ) → IsPlacing count edges placed → count ≤ length placed → IsBuiltOrder count edges placed
halts_whole count edges placed old none =
    let was : spare (is_in placed) count + length placed ≡ count = old.left in
    record { length = omega arith; all = spare_none (is_in placed) count (omega arith); each = old.each }
