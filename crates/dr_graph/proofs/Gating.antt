-- Each handler has a final that is no further than it.
use Rattle.std.proofs.Common.{
  zero-add,
  ◌≡◌,
  ℕ,
  zero,
  suc,
  ◌+◌,
  ◌<◌,
  ◌≤◌,
  inl,
  inr,
  Bool,
  true,
  false,
  List,
  [],
  ◌∷◌,
  ◌++◌,
  sym,
  ◌∙◌,
  ap,
  subst,
  arith,
  refl,
  length,
  map,
  filter,
  slice_index,
  append-nil,
  add-one,
}
use Rattle.std.proofs.lemmas.Bool.{false≢true, cases_eq, cases_Bool, cond_both, or_cases, and_parts, or_from, eqb-true, not-true}
use Rattle.std.proofs.lemmas.List.Folds.{list_any-append, list_any_at}
use Rattle.std.proofs.lemmas.List.FromFn.{length-range_with_len, get_or-range_with_len}
use Rattle.std.proofs.lemmas.List.{get_or-map, length-map}
use Rattle.std.proofs.lemmas.List.Elements.{filter-append, filter_agree, Contains-append_left, Contains-push}
use Rattle.std.specs.Prelude.{Contains, ◌==◌, ◌&&◌, not, cond, get_or, ◌⊎◌}
use Rattle.std.specs.List.{list_any, range_with_len}
use Rattle.dr_graph.specs.Meaning.Graph.{
  upstreams_of,
  is_followed,
  is_final_without,
  finals_without,
  least_of,
  IsLayered,
  IsOrderly,
  IsGated,
  FinalsGate,
  LeastGates,
  LeastRises,
}
use Rattle.dr_graph.specs.Meaning.Order.{is_in}
use Rattle.dr_graph.proofs.Following.{range_more}

-- a number that a test finds stands in the list
any_contains : (h : ℕ) (us : List ℕ) → is_in us h ≡ true → Contains us h
any_contains h [] found = absurd (false≢true found)
any_contains h (u ∷ us) found =
    elim (or_cases (u == h) (is_in us h) found) [
      | inl here ↦ (0, omega arith, eqb-true u h here)
      | inr later ↦ (let at : Contains us h = any_contains h us later in (suc at.0, omega (arith, at.1), at.2))
    ]

-- a number of a stretch that passes a test
pub found_in : (p : ℕ → Bool) (a n : ℕ) → list_any p (range_with_len a n) ≡ true → (k : ℕ) × (a ≤ k) × (k < a + n) × (p k ≡ true)
found_in p a zero found = absurd (false≢true found)
found_in p a (suc n) found =
    elim (or_cases (p a) (list_any p (range_with_len (a + 1) n)) found) [
      | inl here ↦ (a, omega arith, omega arith, here)
      | inr later ↦ (let at : (k : ℕ) × (a + 1 ≤ k) × (k < a + 1 + n) × (p k ≡ true) = found_in p (a + 1) n later in (at.0, omega (arith, at.1), omega (arith, at.2), at.3))
    ]

-- a handler that is no final has one after it that is not gone
followed : (graph : List (List ℕ)) (gone : ℕ → Bool) (h : ℕ) → is_followed graph gone h ≡ true
    → (k : ℕ) × (k < length graph) × (gone k ≡ false) × Contains (upstreams_of graph k) h
followed graph gone h found =
    let at : (k : ℕ) × (0 ≤ k) × (k < 0 + length graph) × ((not (gone k) && is_in (upstreams_of graph k) h) ≡ true) =
    found_in (λ k. not (gone k) && is_in (upstreams_of graph k) h) 0 (length graph) found in
    let both : (not (gone at.0) ≡ true) × (is_in (upstreams_of graph at.0) h ≡ true) = and_parts _ _ at.3 in
    (at.0, omega (arith, at.2), not-true (gone at.0) both.0, any_contains h (upstreams_of graph at.0) both.1)

-- two tests that agree find alike
pub any_agree : (p q : ℕ → Bool) → ((k : ℕ) → p k ≡ q k) → (ks : List ℕ) → list_any p ks ≡ list_any q ks
any_agree p q same [] = refl
any_agree p q same (k ∷ ks) = rw (same k, any_agree p q same ks) refl

-- a test of the lists in order is a test of their numbers
pub any_numbered : (p : ℕ → Bool) (q : List ℕ → Bool) (graph : List (List ℕ)) (a : ℕ)
    → ((k : ℕ) → k < length graph → p (a + k) ≡ q (upstreams_of graph k)) → list_any p (range_with_len a (length graph)) ≡ list_any q graph
any_numbered p q [] a same = refl
any_numbered p q (ups ∷ graph) a same =
    let first : p a ≡ q ups = ap p (let e : a ≡ a + 0 = omega arith in e) ∙ same 0 (omega arith) in
    let rest : list_any p (range_with_len (a + 1) (length graph)) ≡ list_any q graph =
    any_numbered p q graph (a + 1) (λ k lt. ap p (let e : a + 1 + k ≡ a + suc k = omega arith in e) ∙ same (suc k) (omega arith)) in
    rw (first, rest) refl

-- the turn of one number in a search
pub any_more : (p : ℕ → Bool) (n : ℕ) → list_any p (range_with_len 0 n) ≡ false → p n ≡ false → list_any p (range_with_len 0 (n + 1)) ≡ false
any_more p n before here =
    ap (λ k. list_any p (range_with_len 0 k)) (add-one n) ∙ ap (list_any p) (range_more 0 n) ∙ list_any-append p (range_with_len 0 n) ((0 + n) ∷ [])
    ∙ or_from _ _ before (or_from _ _ (ap p (zero-add n) ∙ here) refl)

pub any_here : (p : ℕ → Bool) (n k : ℕ) → k < n → p k ≡ true → list_any p (range_with_len 0 n) ≡ true
any_here p n k lt here = list_any_at p (range_with_len 0 n) k 0 (rw length-range_with_len lt) (rw get_or-range_with_len (rw zero-add here))

-- the numbers of a stretch that pass a test, with one number more
pub filter_more : (p : ℕ → Bool) (n : ℕ) → filter p (range_with_len 0 (suc n)) ≡ filter p (range_with_len 0 n) ++ cond (p n) (n ∷ []) []
filter_more p n =
    ap (filter p) (range_more 0 n)
    ∙ filter-append p (range_with_len 0 n) ((0 + n) ∷ [])
    ∙ ap (λ (k : ℕ). filter p (range_with_len 0 n) ++ cond (p k) (k ∷ []) []) (let e : 0 + n ≡ n = omega arith in e)

-- the turn of one number in a loop over them
pub filter_push : (p : ℕ → Bool) (n : ℕ) (so_far longer : List ℕ) → so_far ≡ filter p (range_with_len 0 n) → p n ≡ true → longer ≡ so_far ++ n ∷ []
    → longer ≡ filter p (range_with_len 0 (n + 1))
filter_push p n so_far longer was passed grown =
    grown ∙ ap (λ (xs : List ℕ). xs ++ n ∷ []) was
    ∙ ap (λ (b : Bool). filter p (range_with_len 0 n) ++ cond b (n ∷ []) []) (sym passed)
    ∙ sym (filter_more p n) ∙ ap (λ (k : ℕ). filter p (range_with_len 0 k)) (sym (add-one n))

pub filter_skip : (p : ℕ → Bool) (n : ℕ) (so_far same : List ℕ) → so_far ≡ filter p (range_with_len 0 n) → p n ≡ false → same ≡ so_far
    → same ≡ filter p (range_with_len 0 (n + 1))
filter_skip p n so_far same was failed stays =
    stays ∙ was ∙ sym (append-nil (filter p (range_with_len 0 n)))
    ∙ ap (λ (b : Bool). filter p (range_with_len 0 n) ++ cond b (n ∷ []) []) (sym failed)
    ∙ sym (filter_more p n) ∙ ap (λ (k : ℕ). filter p (range_with_len 0 k)) (sym (add-one n))

-- a number that passes is among them
passes : (p : ℕ → Bool) (n h : ℕ) → h < n → p h ≡ true → Contains (filter p (range_with_len 0 n)) h
passes p zero h lt yields = absurd (omega arith)
passes p (suc n) h lt yields =
    subst (λ (xs : List ℕ). Contains xs h) (sym (filter_more p n))
    (elim (cases_eq n h) [
      | inl e ↦ subst (λ (k : ℕ). Contains (filter p (range_with_len 0 n) ++ cond (p k) (k ∷ []) []) h) (sym e)
          (subst (λ (b : Bool). Contains (filter p (range_with_len 0 n) ++ cond b (h ∷ []) []) h) (sym yields) (Contains-push (filter p (range_with_len 0 n)) h))
      | inr ne ↦ Contains-append_left (filter p (range_with_len 0 n)) (cond (p n) (n ∷ []) []) h (passes p n h (let f : n ≡ h → ⊥ = ne in omega arith) yields)
    ])

-- going down the edges, the numbers that are left grow fewer
down : (graph : List (List ℕ)) → IsLayered graph → (gone : ℕ → Bool) (counts : ℕ → ℕ) → IsOrderly graph counts → (fuel h : ℕ) → h < length graph
    → gone h ≡ false → length graph ≤ h + fuel → IsGated graph gone counts h
down graph layered gone counts orderly zero h lt here enough = absurd (omega arith)
down graph layered gone counts orderly (suc fuel) h lt here enough =
    elim (cases_Bool (is_followed graph gone h)) [
      | inr none ↦ record { last = h; final = passes (is_final_without graph gone) (length graph) h lt (rw (here, none) refl); behind = omega arith }
      | inl more ↦ (
          let after : (k : ℕ) × (k < length graph) × (gone k ≡ false) × Contains (upstreams_of graph k) h = followed graph gone h more in
          let below : h < after.0 = layered after.0 h after.3 in
          let gate : IsGated graph gone counts after.0 = down graph layered gone counts orderly fuel after.0 after.1 after.2 (omega arith) in
          let step : counts after.0 ≤ counts h = orderly after.0 h after.3 in
          record { last = gate.last; final = gate.final; behind = (let b : counts gate.last ≤ counts after.0 = gate.behind in omega arith) })
    ]

pub finals_gate : (graph : List (List ℕ)) → IsLayered graph → FinalsGate graph
finals_gate graph layered gone counts orderly h lt here = down graph layered gone counts orderly (length graph) h lt here (omega arith)

-- the least of some numbers is at most each
least_at : (xs : List ℕ) (k : ℕ) → k < length xs → least_of xs ≤ slice_index xs k
least_at [] k lt = absurd (omega arith)
least_at (n ∷ []) zero lt = omega arith
least_at (n ∷ []) (suc k) lt = absurd (omega arith)
least_at (n ∷ m ∷ ms) zero lt = omega arith
least_at (n ∷ m ∷ ms) (suc k) lt = (let rest : least_of (m ∷ ms) ≤ slice_index (m ∷ ms) k = least_at (m ∷ ms) k (omega arith) in omega arith)

-- and of the counts of some handlers
pub least_among : (counts : ℕ → ℕ) (hs : List ℕ) (f : ℕ) → Contains hs f → least_of (map counts hs) ≤ counts f
least_among counts hs f at =
    let here : slice_index (map counts hs) at.0 ≡ counts f = get_or-map counts hs at.0 f 0 at.1 ∙ ap counts at.2 in
    let least : least_of (map counts hs) ≤ slice_index (map counts hs) at.0 = least_at (map counts hs) at.0 (omega (arith, length-map hs counts, at.1)) in
    omega arith

-- the finals' least count is at most every handler's
pub least_gates : (graph : List (List ℕ)) → FinalsGate graph → LeastGates graph
least_gates graph gates gone counts orderly h lt here =
    let gate : IsGated graph gone counts h = gates gone counts orderly h lt here in
    let least : least_of (map counts (finals_without graph gone)) ≤ counts gate.last = least_among counts (finals_without graph gone) gate.last gate.final in
    let behind : counts gate.last ≤ counts h = gate.behind in
    omega arith

-- what no count of some handlers is below, their least is not
pub least_above : (counts : ℕ → ℕ) (k h : ℕ) (hs : List ℕ) → ((f : ℕ) → Contains (h ∷ hs) f → k ≤ counts f) → k ≤ least_of (map counts (h ∷ hs))
least_above counts k h [] all = all h (0, omega arith, refl)
least_above counts k h (x ∷ xs) all =
    let here : k ≤ counts h = all h (0, omega arith, refl) in
    let rest : k ≤ least_of (map counts (x ∷ xs)) =
    least_above counts k x xs (λ f has. all f (suc has.0, (let l : has.0 < length (x ∷ xs) = has.1 in omega arith), has.2)) in
    omega arith

pub least_above_some : (counts : ℕ → ℕ) (k f : ℕ) (hs : List ℕ) → Contains hs f → ((f : ℕ) → Contains hs f → k ≤ counts f) → k ≤ least_of (map counts hs)
least_above_some counts k f [] has all = absurd (let l : has.0 < 0 = has.1 in omega arith)
least_above_some counts k f (h ∷ hs) has all = least_above counts k h hs all

first_or_later : (x : ℕ) (xs : List ℕ) (f i : ℕ) → i < length (x ∷ xs) → get_or (x ∷ xs) i f ≡ f → (x ≡ f) ⊎ Contains xs f
first_or_later x xs f zero lt at = inl at
first_or_later x xs f (suc i) lt at = inr (i, omega arith, at)

-- what a filter keeps of a stretch is in the stretch, and passes
chosen_in : (p : ℕ → Bool) (a n f : ℕ) → Contains (filter p (range_with_len a n)) f → (f < a + n) × (p f ≡ true)
chosen_in p a zero f has = absurd (let l : has.0 < 0 = has.1 in omega arith)
chosen_in p a (suc n) f has =
    let later : Contains (filter p (range_with_len (a + 1) n)) f → (f < a + suc n) × (p f ≡ true) =
    λ more. (let r : (f < a + 1 + n) × (p f ≡ true) = chosen_in p (a + 1) n f more in (omega (arith, r.0), r.1)) in
    cond_both (p a) (a ∷ filter p (range_with_len (a + 1) n)) (filter p (range_with_len (a + 1) n)) (λ xs. Contains xs f → (f < a + suc n) × (p f ≡ true))
    (λ yes kept. elim (first_or_later a (filter p (range_with_len (a + 1) n)) f kept.0 kept.1 kept.2) [
      | inl e ↦ (omega (arith, e), ap p (sym e) ∙ yes)
      | inr more ↦ later more
    ])
    (λ no. later)
    has

-- a final is a handler that is left
pub final_left : (graph : List (List ℕ)) (gone : ℕ → Bool) (f : ℕ) → Contains (finals_without graph gone) f → (f < length graph) × (gone f ≡ false)
final_left graph gone f has =
    let chosen : (f < 0 + length graph) × (is_final_without graph gone f ≡ true) = chosen_in (is_final_without graph gone) 0 (length graph) f has in
    (omega (arith, chosen.0), not-true (gone f) (and_parts _ _ chosen.1).0)

-- where more handlers go, each final that is left has an earlier one that is no further
pub least_rises : (graph : List (List ℕ)) → FinalsGate graph → LeastRises graph
least_rises graph gates gone more fewer counts orderly h lt here =
    let some : IsGated graph more counts h = gates more counts orderly h lt here in
    least_above_some counts (least_of (map counts (finals_without graph gone))) some.last (finals_without graph more) some.final
    (λ f has. let left : (f < length graph) × (more f ≡ false) = final_left graph more f has in least_gates graph gates gone counts orderly f left.0 (fewer f left.1))

pub followed_agree : (graph : List (List ℕ)) (gone other : ℕ → Bool) → ((k : ℕ) → gone k ≡ other k) → (h : ℕ)
    → is_followed graph gone h ≡ is_followed graph other h
followed_agree graph gone other same h =
    any_agree (λ k. not (gone k) && is_in (upstreams_of graph k) h) (λ k. not (other k) && is_in (upstreams_of graph k) h) (λ k. rw (same k) refl) (range_with_len 0 (length graph))

-- two sets that agree leave the same finals
pub finals_agree : (graph : List (List ℕ)) (gone other : ℕ → Bool) → ((h : ℕ) → gone h ≡ other h) → finals_without graph gone ≡ finals_without graph other
finals_agree graph gone other same =
    filter_agree (is_final_without graph gone) (is_final_without graph other)
    (λ h. rw (same h) (ap (λ b. not (other h) && not b) (followed_agree graph gone other same h)))
    (range_with_len 0 (length graph))
