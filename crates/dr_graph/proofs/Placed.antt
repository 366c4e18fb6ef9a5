-- The graph that is found by placing handlers one after another is the graph of the declaration.
use Rattle.std.proofs.Common.{
  ◌≡◌,
  ℕ,
  zero,
  suc,
  ◌+◌,
  ◌<◌,
  ◌≤◌,
  inl,
  inr,
  Bool,
  true,
  false,
  None,
  Some,
  List,
  [],
  ◌∷◌,
  ◌++◌,
  refl,
  sym,
  ◌∙◌,
  ap,
  subst,
  arith,
  length,
  map,
  take,
  slice_index,
  append-nil,
  add-one,
}
use Rattle.std.proofs.lemmas.Bool.{false≢true, cases_Bool, cases_eq, eq-eqb, ne_eqb}
use Rattle.std.proofs.lemmas.List.{length_push}
use Rattle.std.proofs.lemmas.List.FromFn.{length-map-range_with_len, get_or-map-range_with_len}
use Rattle.std.proofs.Math.Seq.{take-suc, take-length}
use Rattle.std.specs.Prelude.{◌⊎◌, filter}
use Rattle.std.specs.List.{range_with_len}
use Rattle.dr_graph.specs.declared.edge.Edge.{Edge}
use Rattle.dr_graph.specs.Meaning.Order.{AreWithin, HasCycle, IsBuiltOrder, IsInOrder, IsNext, is_ready}
use Rattle.dr_graph.specs.Meaning.Declaration.{Declaration}
use Rattle.dr_graph.specs.Meaning.Graph.{AreChosen, IsGraphOf, GraphView, leads_to, upstreams_of}
use Rattle.dr_graph.specs.Meaning.Placing.{FindsGraph, first_ready, graph_of, placed, shape_in, shape_of_whole, upstreams_in}
use Rattle.dr_graph.proofs.Chosen.{chosen_none, chosen_push, chosen_skip}
use Rattle.dr_graph.proofs.Gating.{filter_push, filter_skip}
use Rattle.dr_graph.proofs.Orders.{IsPlacing, goes_on, halts_stuck, halts_whole, no_cycle, starts}
use Rattle.dr_graph.proofs.Unique.{one_graph, next_once}

-- the first chosen number of a stretch, alone, or none
record IsFirst (choose : ℕ → Bool) (from n h : ℕ) : Type 0 where
  above : from ≤ h
  below : h < from + n
  chosen : choose h ≡ true
  first : (j : ℕ) → from ≤ j → j < h → choose j ≡ false

abbrev NoneChosen : (ℕ → Bool) → ℕ → ℕ → Type 0
NoneChosen choose from n = (j : ℕ) → from ≤ j → j < from + n → choose j ≡ false

abbrev FirstOf : (ℕ → Bool) → ℕ → ℕ → List ℕ → Type 0
FirstOf choose from n hs = ((hs ≡ []) × NoneChosen choose from n) ⊎ ((h : ℕ) × (hs ≡ h ∷ []) × IsFirst choose from n h)

later : (choose : ℕ → Bool) (from n : ℕ) (hs : List ℕ) → choose from ≡ false → FirstOf choose (from + 1) n hs → FirstOf choose from (suc n) hs
later choose from n hs not_here (inl none) = inl (
  none.0,
  λ j ge lt. elim (cases_eq j from) [
    | inl e ↦ ap choose e ∙ not_here
    | inr ne ↦ none.1 j (let f : j ≡ from → ⊥ = ne in omega arith) (omega arith)
  ],
)
later choose from n hs not_here (inr some) = inr (
  some.0,
  some.1,
  record {
    above = (let ge = some.2.above in omega arith);
    below = (let lt = some.2.below in omega arith);
    chosen = some.2.chosen;
    first = λ j ge lt. elim (cases_eq j from) [
      | inl e ↦ ap choose e ∙ not_here
      | inr ne ↦ some.2.first j (let f : j ≡ from → ⊥ = ne in omega arith) lt
    ];
  },
)

first_of : (choose : ℕ → Bool) (from n : ℕ) → FirstOf choose from n (take 1 (filter choose (range_with_len from n)))
first_of choose from zero = inl (refl, λ j ge lt. absurd (omega arith))
first_of choose from (suc n) = elim (cases_Bool (choose from)) [
  | inl here ↦ rw here (inr (from, refl, record { above = omega arith; below = omega arith; chosen = here; first = λ j ge lt. absurd (omega arith) }))
  | inr not_here ↦ rw not_here (later choose from n (take 1 (filter choose (range_with_len (from + 1) n))) not_here (first_of choose (from + 1) n))
]

-- none is ready
abbrev IsStuck : ℕ → List Edge → List ℕ → Type 0
IsStuck count edges order = (j : ℕ) → j < count → is_ready edges order j ≡ false

next_or_stuck : (count : ℕ) (edges : List Edge) (order : List ℕ)
    → ((first_ready count edges order ≡ []) × IsStuck count edges order) ⊎ ((h : ℕ) × (first_ready count edges order ≡ h ∷ []) × IsNext count edges order h)
next_or_stuck count edges order = elim (first_of (is_ready edges order) 0 count) [
  | inl none ↦ inl (none.0, λ j lt. none.1 j (omega arith) (omega arith))
  | inr some ↦ inr (
    some.0,
    some.1,
    record {
      declared = (let lt = some.2.below in omega arith);
      ready = some.2.chosen;
      first = λ j lt. some.2.first j (omega arith) lt;
    },
  )
]

-- what is placed is in order, and it is either as long as it can be, or none is ready any more
record PlacesAll (count : ℕ) (edges : List Edge) (n : ℕ) (order : List ℕ) : Type 0 where
  placing : IsPlacing count edges order
  few : length order ≤ n
  far : (length order ≡ n) ⊎ IsStuck count edges order

placed_none : (count : ℕ) (edges : List Edge) → placed count edges 0 ≡ []
unfolding placed
placed_none count edges = refl

placed_more : (count : ℕ) (edges : List Edge) (n : ℕ) → placed count edges (suc n) ≡ placed count edges n ++ first_ready count edges (placed count edges n)
unfolding placed
placed_more count edges n = refl

stays : (count : ℕ) (edges : List Edge) (n : ℕ) (order longer : List ℕ) → PlacesAll count edges n order → longer ≡ order → IsStuck count edges order
    → PlacesAll count edges (suc n) longer
stays count edges n order longer old same stuck = rw same (record { placing = old.placing; few = (let few = old.few in omega arith); far = inr stuck })

grows : (count : ℕ) (edges : List Edge) (n h : ℕ) (order longer : List ℕ) → PlacesAll count edges n order → IsNext count edges order h
    → longer ≡ order ++ h ∷ [] → PlacesAll count edges (suc n) longer
grows count edges n h order longer old next is =
    let one : length longer ≡ length order + 1 = ap length is ∙ length_push order h in
    record {
      placing = goes_on count edges order h longer old.placing next is;
      few = (let few = old.few in omega arith);
      far = elim old.far [
        | inl whole ↦ inl (omega arith)
        | inr stuck ↦ absurd (false≢true (sym (stuck h next.declared) ∙ next.ready))
      ];
    }

places_all : (count : ℕ) (edges : List Edge) (n : ℕ) → PlacesAll count edges n (placed count edges n)
places_all count edges zero =
    let none = placed_none count edges in
    record { placing = starts count edges (placed count edges 0) none; few = rw none (omega arith); far = inl (ap length none) }
places_all count edges (suc n) =
    let before = placed count edges n in
    let old = places_all count edges n in
    elim (next_or_stuck count edges before) [
      | inl stuck ↦ stays count edges n before (placed count edges (suc n)) old (placed_more count edges n ∙ ap (λ hs. before ++ hs) stuck.0 ∙ append-nil before) stuck.1
      | inr next ↦ grows count edges n next.0 before (placed count edges (suc n)) old next.2 (placed_more count edges n ∙ ap (λ hs. before ++ hs) next.1)
    ]

-- where there is a built order, its handlers are placed
agrees : (count : ℕ) (edges : List Edge) (order : List ℕ) → IsInOrder count edges order → (n : ℕ) → n ≤ length order → placed count edges n ≡ take n order
agrees count edges order each zero le = placed_none count edges
agrees count edges order each (suc n) le =
    let before : placed count edges n ≡ take n order = agrees count edges order each n (omega arith) in
    let next : IsNext count edges (take n order) (slice_index order n) = each n (omega arith) in
    let more : first_ready count edges (take n order) ≡ slice_index order n ∷ [] = elim (next_or_stuck count edges (take n order)) [
      | inl stuck ↦ absurd (false≢true (sym (stuck.1 (slice_index order n) next.declared) ∙ next.ready))
      | inr found ↦ found.1 ∙ ap (λ h. h ∷ []) (next_once count edges (take n order) found.0 (slice_index order n) found.2 next)
    ] in
    placed_more count edges n ∙ ap (λ hs. hs ++ first_ready count edges hs) before ∙ ap (λ hs. take n order ++ hs) more ∙ sym (take-suc order n 0 (omega arith))

chosen_of : (choose : ℕ → Bool) (n : ℕ) → AreChosen choose n (filter choose (range_with_len 0 n))
chosen_of choose zero = chosen_none choose
chosen_of choose (suc n) =
    let before = filter choose (range_with_len 0 n) in
    let more = filter choose (range_with_len 0 (n + 1)) in
    let grown : AreChosen choose (n + 1) more = elim (cases_Bool (choose n)) [
      | inl good ↦ chosen_push choose n before more (chosen_of choose n) good (sym (filter_push choose n before (before ++ n ∷ []) refl good refl))
      | inr skip ↦ subst (λ (ns : List ℕ). AreChosen choose (n + 1) ns) (filter_skip choose n before before refl skip refl) (chosen_skip choose n before (chosen_of choose n) skip)
    ] in
    subst (λ (k : ℕ). AreChosen choose k (filter choose (range_with_len 0 k))) (add-one n) grown

graph_in : (d : Declaration) (order : List ℕ) → IsBuiltOrder (length d.names) d.edges order → IsGraphOf d (shape_in d order)
graph_in d order built =
    let whole : length order ≡ length d.names = built.length in
    let lists = map (upstreams_in d.edges order) (range_with_len 0 (length order)) in
    record {
      order = order;
      built = built;
      named = refl;
      complete = length-map-range_with_len (upstreams_in d.edges order) 0 (length order) ∙ whole;
      upstreams = λ h lt.
          let here : upstreams_of lists h ≡ upstreams_in d.edges order h =
          get_or-map-range_with_len (upstreams_in d.edges order) 0 (length order) h h [] (omega arith) (omega arith) in
          subst (λ (ns : List ℕ). AreChosen (leads_to d.edges order h) (length d.names) ns) (sym here)
          (subst (λ (n : ℕ). AreChosen (leads_to d.edges order h) n (upstreams_in d.edges order h)) whole (chosen_of (leads_to d.edges order h) (length order)));
    }

found_whole : (d : Declaration) (order : List ℕ) → length order ≡ length d.names → shape_of_whole d order ≡ Some (shape_in d order)
found_whole d order whole = rw (eq-eqb (length order) (length d.names) whole) refl

found_none : (d : Declaration) (order : List ℕ) → (length order ≡ length d.names → ⊥) → shape_of_whole d order ≡ None
found_none d order short = rw (ne_eqb (length order) (length d.names) short) refl

some_once : {A : Type 0} (x y : A) → Some x ≡ Some y → x ≡ y
some_once x y e = cc

clash_none : {A : Type 0} (x : A) → Some x ≡ None → ⊥
clash_none x e = cc

built_of : (d : Declaration) (order : List ℕ) → PlacesAll (length d.names) d.edges (length d.names) order → length order ≡ length d.names
    → IsBuiltOrder (length d.names) d.edges order
built_of d order all whole = halts_whole (length d.names) d.edges order all.placing (omega arith)

sound_in : (d : Declaration) (order : List ℕ) (graph : GraphView) → PlacesAll (length d.names) d.edges (length d.names) order
    → shape_of_whole d order ≡ Some graph → IsGraphOf d graph
sound_in d order graph all is = elim (cases_eq (length order) (length d.names)) [
  | inl whole ↦ subst (λ (g : GraphView). IsGraphOf d g) (some_once (shape_in d order) graph (sym (found_whole d order whole) ∙ is)) (graph_in d order (built_of d order all whole))
  | inr short ↦ absurd (clash_none graph (sym is ∙ found_none d order short))
]

whole_in : (d : Declaration) (graph : GraphView) → IsGraphOf d graph → graph_of d ≡ Some graph
whole_in d graph is =
    let count = length d.names in
    let len : length is.order ≡ count = is.built.length in
    let same : placed count d.edges count ≡ is.order = agrees count d.edges is.order is.built.each count (omega arith)
    ∙ ap (λ n. take n is.order) (sym len) ∙ take-length is.order in
    ap (shape_of_whole d) same ∙ found_whole d is.order len ∙ ap Some (one_graph d (shape_in d is.order) graph (graph_in d is.order is.built) is)

cyclic_in : (d : Declaration) (order : List ℕ) → PlacesAll (length d.names) d.edges (length d.names) order → AreWithin (length d.names) d.edges
    → shape_of_whole d order ≡ None → HasCycle d.edges
cyclic_in d order all within none = elim (cases_eq (length order) (length d.names)) [
  | inl whole ↦ absurd (clash_none (shape_in d order) (sym (found_whole d order whole) ∙ none))
  | inr short ↦ elim all.far [
    | inl whole ↦ absurd (short whole)
    | inr stuck ↦ halts_stuck (length d.names) d.edges order within all.placing (let few = all.few in let f : length order ≡ length d.names → ⊥ = short in omega arith) stuck
  ]
]

acyclic_in : (d : Declaration) (order : List ℕ) → PlacesAll (length d.names) d.edges (length d.names) order → AreWithin (length d.names) d.edges
    → HasCycle d.edges → shape_of_whole d order ≡ None
acyclic_in d order all within cycle = elim (cases_eq (length order) (length d.names)) [
  | inl whole ↦ absurd (no_cycle (length d.names) d.edges order within (built_of d order all whole) cycle)
  | inr short ↦ found_none d order short
]

pub finds_graph : (d : Declaration) → FindsGraph d
finds_graph d =
    let count = length d.names in
    let all = places_all count d.edges count in
    let order = placed count d.edges count in
    record {
      sound = λ graph is. sound_in d order graph all is;
      whole = λ graph is. whole_in d graph is;
      cyclic = λ within none. cyclic_in d order all within none;
      acyclic = λ within cycle. acyclic_in d order all within cycle;
    }
