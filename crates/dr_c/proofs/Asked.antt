-- The names and edges that masks ask for are declared, and then each handler has the number of its mask.
use Rattle.std.proofs.Common.{
  ◌≡◌,
  ℕ,
  zero,
  suc,
  ◌+◌,
  ◌/◌,
  ◌%◌,
  ◌^◌,
  ◌<◌,
  ◌≤◌,
  inl,
  inr,
  Bool,
  true,
  false,
  Option,
  None,
  Some,
  Result,
  Ok,
  Err,
  IfErr,
  IfOk,
  IsErrAnd,
  IsErrOf,
  List,
  [],
  ◌∷◌,
  ◌++◌,
  length,
  map,
  filter,
  take,
  slice_index,
  refl,
  sym,
  ◌∙◌,
  ap,
  subst,
  arith,
  add-one,
  zero-add,
}
use Rattle.std.proofs.Math.Nat.{div-eq_of_lt}
use Rattle.std.proofs.Math.Pow.{pow_mono}
use Rattle.std.proofs.lemmas.Bool.{
  false≢true,
  cases_Bool,
  cases_eq,
  cases_lt,
  cond-true,
  cond-false,
  eq-eqb,
  eqb-true,
  and_from,
  and_parts,
  not-true,
  or_cases,
  or_left,
  or_right,
}
use Rattle.std.proofs.lemmas.List.Folds.{list_any-append}
use Rattle.std.proofs.lemmas.List.FromFn.{get_or-map-range_with_len, get_or-range_with_len, map-range_with_len_more, length-map-range_with_len, length-range_with_len}
use Rattle.std.proofs.lemmas.Option.{none-some}
use Rattle.std.proofs.lemmas.Slice.Eq.{bytes_eq-Decides}
use Rattle.std.specs.List.{list_all, range_with_len}
use Rattle.std.specs.Prelude.{◌==◌, ◌&&◌, ◌||◌, ◌⊎◌, ◌↔◌, not, decimal, is_some}
use Rattle.core.specs.Fmt.{digits}
use Rattle.std.specs.Str.{bytes_eq}
use Rattle.dr_graph.specs.Calls.Answer.{Answers}
use Rattle.dr_graph.specs.Meaning.Declaration.{Declaration, connected, declaring_fault, name_faults, stranger_fault, with_edge}
use Rattle.dr_graph.specs.Meaning.Graph.{AreChosen, GraphView, IsGraphOf, leads_to, names_in, upstreams_of}
use Rattle.dr_graph.specs.Meaning.Name.{Name, index_of, is_named}
use Rattle.dr_graph.specs.Meaning.Order.{AreWithin, HasCycle, IsBuiltOrder, IsNext, is_in, is_ready, is_upstream}
use Rattle.dr_graph.specs.declared.edge.Edge.{Edge}
use Rattle.dr_graph.specs.declared.fault.GraphFault.{GraphFault}
use Rattle.dr_graph.specs.declared.fault.GraphFault.TheVariants.{Cycle, NoHandlers, NoMemory}
use Rattle.dr_graph.proofs.Chosen.{chosen_none, chosen_push, chosen_skip}
use Rattle.dr_graph.proofs.Gating.{any_here, filter_push, filter_skip, found_in}
use Rattle.dr_graph.proofs.Naming.{any_map, nothing}
use Rattle.dr_graph.proofs.Orders.{no_cycle, ready_unplaced, unready_upstream}
use Rattle.dr_graph.proofs.Strangers.{stranger_none}
use Rattle.dr_graph.proofs.Unique.{one_graph}
use Rattle.dr_c.specs.Asked.{AreAsked, Asks, IsAskedBy, IsGraphOfMasks, numbered}
use Rattle.dr_c.specs.OpenFault.{AreInOrder}
use Rattle.dr_c.specs.Opening.{FollowsMasks, handlers_in, has_bit}

-- The names of up to 16 handlers.

-- what is so of all numbers of a stretch is so of each
all_in : (p : ℕ → Bool) (a n : ℕ) → list_all p (range_with_len a n) ≡ true → (k : ℕ) → a ≤ k → k < a + n → p k ≡ true
all_in p a zero all k from below = absurd (omega arith)
all_in p a (suc n) all k from below =
    let both : (p a ≡ true) × (list_all p (range_with_len (a + 1) n) ≡ true) = and_parts (p a) (list_all p (range_with_len (a + 1) n)) all in
    elim (cases_eq k a) [
      | inl same ↦ ap p same ∙ both.0
      | inr other ↦ all_in p (a + 1) n both.1 k (let f : k ≡ a → ⊥ = other in omega arith) (omega arith)
    ]

abbrev is_new : ℕ → Bool
is_new k = not (is_some (declaring_fault (numbered k) (decimal k ∷ [])))

all_new : list_all is_new (range_with_len 0 16) ≡ true
unfolding name_faults digits
all_new = refl

pub new_name : (k : ℕ) → k < 16 → declaring_fault (numbered k) (decimal k ∷ []) ≡ None
new_name k few =
    let fault = declaring_fault (numbered k) (decimal k ∷ []) in
    nothing fault (not-true (is_some fault) (all_in is_new 0 16 all_new k (omega arith) (omega arith)))

abbrev is_placed : ℕ → ℕ → Bool
is_placed n k = index_of (numbered n) (decimal k) == k

all_placed : list_all (λ n. list_all (is_placed n) (range_with_len 0 n)) (range_with_len 0 17) ≡ true
unfolding digits
all_placed = refl

pub place_of_number : (n k : ℕ) → n ≤ 16 → k < n → index_of (numbered n) (decimal k) ≡ k
place_of_number n k few below =
    let each : list_all (is_placed n) (range_with_len 0 n) ≡ true =
    all_in (λ (m : ℕ). list_all (is_placed m) (range_with_len 0 m)) 0 17 all_placed n (omega arith) (omega arith) in
    eqb-true (index_of (numbered n) (decimal k)) k (all_in (is_placed n) 0 n each k (omega arith) (omega arith))

named : (n k : ℕ) → k < n → is_named (numbered n) (decimal k) ≡ true
named n k below =
    any_map decimal (range_with_len 0 n) (decimal k)
    ∙ any_here (λ (m : ℕ). bytes_eq (decimal k) (decimal m)) n k below ((bytes_eq-Decides (decimal k) (decimal k)).1 refl)

pub no_stranger : (n up handler : ℕ) → up < n → handler < n → stranger_fault (numbered n) (decimal up ∷ decimal handler ∷ []) ≡ None
no_stranger n up handler u h =
    stranger_none (numbered n) (decimal up ∷ decimal handler ∷ [])
    (and_from (is_named (numbered n) (decimal up)) (is_named (numbered n) (decimal handler) && true) (named n up u)
    (and_from (is_named (numbered n) (decimal handler)) true (named n handler h) refl))

-- one name more
pub numbered_more : (n : ℕ) → numbered n ++ decimal n ∷ [] ≡ numbered (n + 1)
numbered_more n = sym (map-range_with_len_more decimal 0 n n (zero-add n))

-- The edges.

pushed : (edges : List Edge) (a b u h : ℕ)
    → is_upstream (edges ++ record { up = a; down = b } ∷ []) u h ≡ (is_upstream edges u h || (((a == u) && (b == h)) || false))
pushed edges a b u h = list_any-append (λ (e : Edge). (e.up == u) && (e.down == h)) edges (record { up = a; down = b } ∷ [])

stays : (edges : List Edge) (a b : ℕ) → is_upstream edges a b ≡ true → with_edge edges a b ≡ edges
stays edges a b there = cond-true (is_upstream edges a b) edges (edges ++ record { up = a; down = b } ∷ []) there

grows : (edges : List Edge) (a b : ℕ) → is_upstream edges a b ≡ false → with_edge edges a b ≡ edges ++ record { up = a; down = b } ∷ []
grows edges a b new = cond-false (is_upstream edges a b) edges (edges ++ record { up = a; down = b } ∷ []) new

-- an edge that is there was there before, or is the one that was added
edge_from : (edges : List Edge) (a b u h : ℕ) → is_upstream (with_edge edges a b) u h ≡ true → (is_upstream edges u h ≡ true) ⊎ ((u ≡ a) × (h ≡ b))
edge_from edges a b u h is = elim (cases_Bool (is_upstream edges a b)) [
  | inl there ↦ inl (ap (λ (es : List Edge). is_upstream es u h) (sym (stays edges a b there)) ∙ is)
  | inr new ↦ (
      let either : (is_upstream edges u h || (((a == u) && (b == h)) || false)) ≡ true =
      sym (pushed edges a b u h) ∙ ap (λ (es : List Edge). is_upstream es u h) (sym (grows edges a b new)) ∙ is in
      elim (or_cases (is_upstream edges u h) (((a == u) && (b == h)) || false) either) [
        | inl old ↦ inl old
        | inr one ↦ elim (or_cases ((a == u) && (b == h)) false one) [
          | inl both ↦ (
              let parts : ((a == u) ≡ true) × ((b == h) ≡ true) = and_parts (a == u) (b == h) both in inr (sym (eqb-true a u parts.0), sym (eqb-true b h parts.1)))
          | inr none ↦ absurd (false≢true none)
        ]
      ])
]

edge_stays : (edges : List Edge) (a b u h : ℕ) → is_upstream edges u h ≡ true → is_upstream (with_edge edges a b) u h ≡ true
edge_stays edges a b u h is = elim (cases_Bool (is_upstream edges a b)) [
  | inl there ↦ ap (λ (es : List Edge). is_upstream es u h) (stays edges a b there) ∙ is
  | inr new ↦ ap (λ (es : List Edge). is_upstream es u h) (grows edges a b new) ∙ pushed edges a b u h
      ∙ or_left (is_upstream edges u h) (((a == u) && (b == h)) || false) is
]

edge_here : (edges : List Edge) (a b : ℕ) → is_upstream (with_edge edges a b) a b ≡ true
edge_here edges a b = elim (cases_Bool (is_upstream edges a b)) [
  | inl there ↦ ap (λ (es : List Edge). is_upstream es a b) (stays edges a b there) ∙ there
  | inr new ↦ ap (λ (es : List Edge). is_upstream es a b) (grows edges a b new) ∙ pushed edges a b a b
      ∙ or_right (is_upstream edges a b) (((a == a) && (b == b)) || false)
      (or_left ((a == a) && (b == b)) false (and_from (a == a) (b == b) (eq-eqb a a refl) (eq-eqb b b refl)))
]

-- Edges as masks ask for them.

pub asked_none : (masks : List ℕ) (edges : List Edge) → edges ≡ [] → AreAsked masks 0 0 edges
asked_none masks edges none u h = (
  λ edge. absurd (false≢true (ap (λ (es : List Edge). is_upstream es u h) (sym none) ∙ edge)),
  λ asked. let no : ⊥ = elim asked.1 [ inl lower ↦ omega (arith, lower) | inr here ↦ omega (arith, here.1) ] in absurd no,
)

-- the edge from one handler more
pub asked_next : (masks : List ℕ) (handler up : ℕ) (edges longer : List Edge) → AreAsked masks handler up edges → Asks masks up handler
    → longer ≡ with_edge edges up handler → AreAsked masks handler (up + 1) longer
asked_next masks handler up edges longer was asks is u h = (
  λ edge. elim (edge_from edges up handler u h (ap (λ (es : List Edge). is_upstream es u h) (sym is) ∙ edge)) [
    | inl old ↦ (
        let before : Asks masks u h × ((h < handler) ⊎ ((h ≡ handler) × (u < up))) = (was u h).0 old in
        (before.0, elim before.1 [ inl lower ↦ inl lower | inr here ↦ inr (here.0, omega (arith, here.1)) ]))
    | inr one ↦ (
      subst (λ (k : ℕ). Asks masks u k) (sym one.1) (subst (λ (k : ℕ). Asks masks k handler) (sym one.0) asks),
      inr (one.1, omega (arith, one.0)),
    )
  ],
  λ asked. ap (λ (es : List Edge). is_upstream es u h) is ∙ elim asked.1 [
    | inl lower ↦ edge_stays edges up handler u h ((was u h).1 (asked.0, inl lower))
    | inr here ↦ elim (cases_eq u up) [
      | inl same ↦ ap (λ (k : ℕ). is_upstream (with_edge edges up handler) k h) same
          ∙ ap (λ (k : ℕ). is_upstream (with_edge edges up handler) up k) here.0 ∙ edge_here edges up handler
      | inr other ↦ edge_stays edges up handler u h
          ((was u h).1 (asked.0, inr (here.0, (let f : u ≡ up → ⊥ = other in let b : u < up + 1 = here.1 in omega arith))))
    ]
  ],
)

-- no edge from a handler whose bit is not there
pub asked_skip : (masks : List ℕ) (handler up : ℕ) (edges : List Edge) → AreAsked masks handler up edges
    → has_bit (slice_index masks handler) up ≡ false → AreAsked masks handler (up + 1) edges
asked_skip masks handler up edges was clear u h = (
  λ edge. (
      let before : Asks masks u h × ((h < handler) ⊎ ((h ≡ handler) × (u < up))) = (was u h).0 edge in
      (before.0, elim before.1 [ inl lower ↦ inl lower | inr here ↦ inr (here.0, omega (arith, here.1)) ])),
  λ asked. elim asked.1 [
    | inl lower ↦ (was u h).1 (asked.0, inl lower)
    | inr here ↦ elim (cases_eq u up) [
      | inl same ↦ absurd (false≢true
          (sym clear ∙ ap (has_bit (slice_index masks handler)) (sym same) ∙ ap (λ (k : ℕ). has_bit (slice_index masks k) u) (sym here.0) ∙ asked.0.2))
      | inr other ↦ (was u h).1 (asked.0, inr (here.0, (let f : u ≡ up → ⊥ = other in let b : u < up + 1 = here.1 in omega arith)))
    ]
  ],
)

-- all edges to a handler, and so those to the handlers before the next one
pub asked_row : (masks : List ℕ) (handler : ℕ) (edges : List Edge) → AreAsked masks handler handler edges → AreAsked masks (handler + 1) 0 edges
asked_row masks handler edges was u h = (
  λ edge. (
      let before : Asks masks u h × ((h < handler) ⊎ ((h ≡ handler) × (u < handler))) = (was u h).0 edge in
      (before.0, inl (elim before.1 [ inl lower ↦ omega (arith, lower) | inr here ↦ omega (arith, here.0) ]))),
  λ asked. (was u h).1 (
    asked.0,
    elim asked.1 [
      | inl lower ↦ elim (cases_eq h handler) [
        | inl same ↦ inr (same, omega (arith, asked.0.1, same))
        | inr other ↦ inl (let f : h ≡ handler → ⊥ = other in let b : h < handler + 1 = lower in omega arith)
      ]
      | inr none ↦ absurd (omega (arith, none.1))
    ],
  ),
)

pub asked_all : (masks : List ℕ) (edges : List Edge) → AreAsked masks (length masks) 0 edges → (u h : ℕ) → (is_upstream edges u h ≡ true) ↔ Asks masks u h
asked_all masks edges was u h = (λ edge. ((was u h).0 edge).0, λ asks. (was u h).1 (asks, inl asks.0))

-- Where each edge leads to a later handler the built order is that of the numbers.

abbrev Rises : List Edge → Type 0
Rises edges = (u h : ℕ) → is_upstream edges u h ≡ true → u < h

in_numbers : (n h : ℕ) → h < n → is_in (range_with_len 0 n) h ≡ true
in_numbers n h below = any_here (λ (k : ℕ). k == h) n h below (eq-eqb h h refl)

not_in_numbers : (n : ℕ) → is_in (range_with_len 0 n) n ≡ false
not_in_numbers n = elim (cases_Bool (is_in (range_with_len 0 n) n)) [
  | inl is ↦ (
      let at : (k : ℕ) × (0 ≤ k) × (k < 0 + n) × ((k == n) ≡ true) = found_in (λ (k : ℕ). k == n) 0 n is in
      let same : at.0 ≡ n = eqb-true at.0 n at.3 in absurd (omega (arith, at.2, same)))
  | inr not ↦ not
]

take_numbers : (a n k : ℕ) → k ≤ n → take k (range_with_len a n) ≡ range_with_len a k
take_numbers a n zero le = refl
take_numbers a zero (suc k) le = absurd (omega arith)
take_numbers a (suc n) (suc k) le = ap (λ (ks : List ℕ). a ∷ ks) (take_numbers (a + 1) n k (omega arith))

next_number : (count : ℕ) (edges : List Edge) → Rises edges → (k : ℕ) → k < count → IsNext count edges (range_with_len 0 k) k
next_number count edges rises k below = record {
  declared = below;
  ready = elim (cases_Bool (is_ready edges (range_with_len 0 k) k)) [
    | inl is ↦ is
    | inr waits ↦ (
        let up : (u : ℕ) × (is_in (range_with_len 0 k) u ≡ false) × (is_upstream edges u k ≡ true) =
        unready_upstream edges (range_with_len 0 k) k (not_in_numbers k) waits in
        absurd (false≢true (sym up.1 ∙ in_numbers k up.0 (rises up.0 k up.2))))
  ];
  first = λ j lt. elim (cases_Bool (is_ready edges (range_with_len 0 k) j)) [
    | inl is ↦ absurd (false≢true (sym (ready_unplaced edges (range_with_len 0 k) j is) ∙ in_numbers k j lt))
    | inr not ↦ not
  ];
}

number_at : (n k : ℕ) → k < n → slice_index (range_with_len 0 n) k ≡ k
number_at n k below = get_or-range_with_len 0 n k 0 below ∙ zero-add k

numbers_built : (count : ℕ) (edges : List Edge) → Rises edges → IsBuiltOrder count edges (range_with_len 0 count)
numbers_built count edges rises = record {
  length = length-range_with_len 0 count;
  all = λ h below. in_numbers count h below;
  each = λ k below. (
      let many : length (range_with_len 0 count) ≡ count = length-range_with_len 0 count in
      let within : k < count = omega (arith, below, many) in
      subst (λ (ks : List ℕ). IsNext count edges ks (slice_index (range_with_len 0 count) k)) (sym (take_numbers 0 count k (omega arith)))
      (subst (λ (m : ℕ). IsNext count edges (range_with_len 0 k) m) (sym (number_at count k within)) (next_number count edges rises k within)));
}

rises_of : (masks : List ℕ) (d : Declaration) → IsAskedBy masks d → Rises d.edges
rises_of masks d asked u h edge = ((asked.edges u h).0 edge).1

count_of : (masks : List ℕ) (d : Declaration) → IsAskedBy masks d → length d.names ≡ length masks
count_of masks d asked = ap length asked.names ∙ length-map-range_with_len decimal 0 (length masks)

-- so nothing that masks ask for is a cycle
no_cycle_of : (masks : List ℕ) (d : Declaration) → IsAskedBy masks d → HasCycle d.edges → ⊥
no_cycle_of masks d asked cycle =
    let many : length d.names ≡ length masks = count_of masks d asked in
    let within : AreWithin (length d.names) d.edges =
    λ up down edge. (
    let asks : Asks masks up down = (asked.edges up down).0 edge in (omega (arith, asks.0, asks.1, many), omega (arith, asks.0, many))) in
    no_cycle (length d.names) d.edges (range_with_len 0 (length d.names)) within (numbers_built (length d.names) d.edges (rises_of masks d asked)) cycle

-- why their graph is not built
pub why_not : (masks : List ℕ) (d : Declaration) (fault : GraphFault) → IsAskedBy masks d
    → (fault ≡ NoHandlers) ⊎ ((fault ≡ Cycle) ⊎ (fault ≡ NoMemory)) → (fault ≡ NoHandlers → d.names ≡ []) → (fault ≡ Cycle → HasCycle d.edges)
    → (fault ≡ NoMemory) ⊎ ((fault ≡ NoHandlers) × (length masks ≡ 0))
why_not masks d fault asked (inl none) handlers cycle = inr (none, sym (count_of masks d asked) ∙ ap length (handlers none))
why_not masks d fault asked (inr (inl is)) handlers cycle = absurd (no_cycle_of masks d asked (cycle is))
why_not masks d fault asked (inr (inr memory)) handlers cycle = inl memory

-- The graph.

-- a bit of a mask that is below a power of two is one below its exponent
bit_below : (mask h k : ℕ) → mask < 2 ^ h → has_bit mask k ≡ true → k < h
bit_below mask h k small is = elim (cases_lt k h) [
  | inl less ↦ less
  | inr above ↦ (
      let power : 2 ^ h ≤ 2 ^ k = pow_mono above in
      let smaller : mask < 2 ^ k = omega (arith, small, power) in
      let none : mask / 2 ^ k ≡ 0 = div-eq_of_lt smaller in
      absurd (false≢true (sym (ap (λ (q : ℕ). (q % 2) == 1) none) ∙ is)))
]

chosen_of : (choose : ℕ → Bool) (n : ℕ) → AreChosen choose n (filter choose (range_with_len 0 n))
chosen_of choose zero = chosen_none choose
chosen_of choose (suc n) =
    let before = filter choose (range_with_len 0 n) in
    let more = filter choose (range_with_len 0 (n + 1)) in
    let grown : AreChosen choose (n + 1) more = elim (cases_Bool (choose n)) [
      | inl good ↦ chosen_push choose n before more (chosen_of choose n) good (sym (filter_push choose n before (before ++ n ∷ []) refl good refl))
      | inr skip ↦ subst (λ (ns : List ℕ). AreChosen choose (n + 1) ns) (filter_skip choose n before before refl skip refl)
          (chosen_skip choose n before (chosen_of choose n) skip)
    ] in
    subst (λ (k : ℕ). AreChosen choose k (filter choose (range_with_len 0 k))) (add-one n) grown

-- the handlers in a mask are those that lead to its handler
chosen_here : (masks : List ℕ) (edges : List Edge) (h : ℕ) → ((u k : ℕ) → (is_upstream edges u k ≡ true) ↔ Asks masks u k) → AreInOrder masks
    → length masks ≤ 16 → h < length masks → AreChosen (leads_to edges (range_with_len 0 (length masks)) h) (length masks) (handlers_in (slice_index masks h))
unfolding handlers_in
chosen_here masks edges h asked order few below =
    let n : ℕ = length masks in let mask : ℕ = slice_index masks h in let ks : List ℕ = range_with_len 0 n in
    let bits : AreChosen (has_bit mask) 16 (filter (has_bit mask) (range_with_len 0 16)) = chosen_of (has_bit mask) 16 in
    let numbers : (m : ℕ) → m < n → leads_to edges ks h m ≡ is_upstream edges m h =
    λ m lt. ap (λ (k : ℕ). is_upstream edges k (slice_index ks h)) (number_at n m lt) ∙ ap (λ (k : ℕ). is_upstream edges m k) (number_at n h below) in
    record {
      chosen = λ m has. (
          let is : (m < 16) × (has_bit mask m ≡ true) = bits.chosen m has in
          let less : m < h = bit_below mask h m (order h below) is.1 in
          let lt : m < n = omega (arith, less, below) in
          (lt, numbers m lt ∙ (asked m h).1 (below, less, is.1)));
      all = λ m lt leads. (
          let asks : Asks masks m h = (asked m h).0 (sym (numbers m lt) ∙ leads) in bits.all m (omega (arith, lt, few)) asks.2);
      rising = bits.rising;
    }

-- the graph in which each handler has the number of its mask
abbrev graph_in : List ℕ → Declaration → GraphView
graph_in masks d = record {
  names = names_in d.names (range_with_len 0 (length masks));
  upstreams = map (λ (h : ℕ). handlers_in (slice_index masks h)) (range_with_len 0 (length masks));
}

upstreams_in : (masks : List ℕ) (d : Declaration) (h : ℕ) → h < length masks → upstreams_of (graph_in masks d).upstreams h ≡ handlers_in (slice_index masks h)
upstreams_in masks d h below = get_or-map-range_with_len (λ (k : ℕ). handlers_in (slice_index masks k)) 0 (length masks) h h [] below (zero-add h)

is_built : (masks : List ℕ) (d : Declaration) → IsAskedBy masks d → AreInOrder masks → length masks ≤ 16 → IsGraphOf d (graph_in masks d)
is_built masks d asked order few =
    let many : length d.names ≡ length masks = count_of masks d asked in
    let n : ℕ = length masks in
    record {
      order = range_with_len 0 n;
      built = subst (λ (k : ℕ). IsBuiltOrder k d.edges (range_with_len 0 n)) (sym many) (numbers_built n d.edges (rises_of masks d asked));
      named = refl;
      complete = length-map-range_with_len (λ (h : ℕ). handlers_in (slice_index masks h)) 0 n ∙ sym many;
      upstreams = λ h lt. (
          let below : h < n = omega (arith, lt, many) in
          subst (λ (ns : List ℕ). AreChosen (leads_to d.edges (range_with_len 0 n) h) (length d.names) ns) (sym (upstreams_in masks d h below))
          (subst (λ (k : ℕ). AreChosen (leads_to d.edges (range_with_len 0 n) h) k (handlers_in (slice_index masks h))) (sym many)
          (chosen_here masks d.edges h asked.edges order few below)));
    }

pub all_there : (masks : List ℕ) (graph : GraphView) → IsGraphOfMasks masks graph → length graph.upstreams ≡ length masks
all_there masks graph is = is.built.complete ∙ count_of masks is.declared is.asked

pub all_follow : (masks : List ℕ) (graph : GraphView) → IsGraphOfMasks masks graph → AreInOrder masks → length masks ≤ 16 → FollowsMasks graph.upstreams masks
all_follow masks graph is order few =
    let same : graph ≡ graph_in masks is.declared =
    one_graph is.declared graph (graph_in masks is.declared) is.built (is_built masks is.declared is.asked order few) in
    λ k below. ap (λ (g : GraphView). upstreams_of g.upstreams k) same ∙ upstreams_in masks is.declared k below

-- What the builder's calls come to.

-- where nothing refuses a call, memory is what it lacks
pub lacks : (A : Type 0) (known : Option GraphFault) (fault : GraphFault) → known ≡ None → Answers {A = A} NoMemory known (Err fault) → fault ≡ NoMemory
unfolding Answers
lacks A None fault none answer = answer
lacks A (Some other) fault none answer = absurd (none-some other (sym none))

pub lacks_at_name : (A : Type 0) (declared names : List Name) (n : ℕ) (fault : GraphFault) → n < 16 → declared ≡ numbered n → names ≡ decimal n ∷ []
    → Answers {A = A} NoMemory (declaring_fault declared names) (Err fault) → fault ≡ NoMemory
lacks_at_name A declared names n fault few was is answer =
    lacks A (declaring_fault declared names) fault
    (ap (λ (ns : List Name). declaring_fault ns names) was ∙ ap (declaring_fault (numbered n)) is ∙ new_name n few) answer

pub names_next : (old new names : List Name) (n : ℕ) → old ≡ numbered n → names ≡ decimal n ∷ [] → new ≡ old ++ names → new ≡ numbered (n + 1)
names_next old new names n was is grown = grown ∙ ap (λ (ns : List Name). ns ++ names) was ∙ ap (λ (ns : List Name). numbered n ++ ns) is ∙ numbered_more n

pub lacks_at_edge : (declared : List Name) (a b : Name) (n up handler : ℕ) (fault : GraphFault) → declared ≡ numbered n → a ≡ decimal up → b ≡ decimal handler
    → up < n → handler < n → Answers {A = Unit {0}} NoMemory (stranger_fault declared (a ∷ b ∷ [])) (Err fault) → fault ≡ NoMemory
lacks_at_edge declared a b n up handler fault was first second u h answer =
    lacks (Unit {0}) (stranger_fault declared (a ∷ b ∷ [])) fault
    (ap (λ (ns : List Name). stranger_fault ns (a ∷ b ∷ [])) was ∙ ap (λ (m : Name). stranger_fault (numbered n) (m ∷ b ∷ [])) first
    ∙ ap (λ (m : Name). stranger_fault (numbered n) (decimal up ∷ m ∷ [])) second ∙ no_stranger n up handler u h)
    answer

pub edges_next : (masks : List ℕ) (old new : Declaration) (a b : Name) (n up handler : ℕ) → n ≤ 16 → old.names ≡ numbered n → a ≡ decimal up → b ≡ decimal handler
    → handler < n → n ≡ length masks → up < handler → has_bit (slice_index masks handler) up ≡ true → new ≡ connected old a b
    → AreAsked masks handler up old.edges → AreAsked masks handler (up + 1) new.edges
edges_next masks old new a b n up handler few was first second below many less bit is asked =
    let at_a : index_of old.names a ≡ up =
    ap (λ (ns : List Name). index_of ns a) was ∙ ap (index_of (numbered n)) first ∙ place_of_number n up few (omega (arith, less, below)) in
    let at_b : index_of old.names b ≡ handler =
    ap (λ (ns : List Name). index_of ns b) was ∙ ap (index_of (numbered n)) second ∙ place_of_number n handler few below in
    asked_next masks handler up old.edges new.edges asked (omega (arith, below, many), less, bit)
    (ap (λ (d : Declaration). d.edges) is ∙ ap (λ (k : ℕ). with_edge old.edges k (index_of old.names b)) at_a ∙ ap (with_edge old.edges up) at_b)

-- a fault that is passed on
pub fault_as : {A F : Type 0} (result : Result A F) (f g : F) → IsErrAnd result (λ e. e ≡ f) → f ≡ g → IfErr result (λ e. e ≡ g)
fault_as (Ok x) f g is same = tt
fault_as (Err e) f g is same = is ∙ same

-- What is built of a declaration that masks ask for is their graph, and why it is not built.

pub built_so : (masks : List ℕ) (d : Declaration) (result : Result GraphView GraphFault) → IsAskedBy masks d → IfOk result (λ graph. IsGraphOf d graph)
    → IfOk result (λ graph. IsGraphOfMasks masks graph)
built_so masks d (Ok graph) asked is = record { declared = d; asked = asked; built = is }
built_so masks d (Err fault) asked is = tt

pub why_not_built : (masks : List ℕ) (d : Declaration) (result : Result GraphView GraphFault) → IsAskedBy masks d
    → IfErr result (λ fault. (fault ≡ NoHandlers) ⊎ ((fault ≡ Cycle) ⊎ (fault ≡ NoMemory))) → (IsErrOf result NoHandlers) ↔ (d.names ≡ [])
    → (IsErrOf result Cycle → HasCycle d.edges) → IfErr result (λ fault. (fault ≡ NoMemory) ⊎ ((fault ≡ NoHandlers) × (length masks ≡ 0)))
why_not_built masks d (Ok graph) asked refused none cycle = tt
why_not_built masks d (Err fault) asked refused none cycle =
    why_not masks d fault asked refused (λ is. none.0 (ap Err is)) (λ is. cycle (ap Err is))
