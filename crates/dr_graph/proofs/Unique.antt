-- A declaration has one built order, and so one graph.
use Rattle.std.proofs.Common.{◌≡◌, ℕ, zero, suc, ◌<◌, ◌≤◌, inl, inr, List, [], ◌∷◌, ◌++◌, true, refl, sym, ◌∙◌, ap, subst, arith, length, take, slice_index}
use Rattle.std.proofs.lemmas.Bool.{false≢true, cases_order}
use Rattle.std.proofs.lemmas.List.{ext_get_or}
use Rattle.std.proofs.lemmas.List.Kept.{AllPairs-from_increasing}
use Rattle.std.proofs.lemmas.Map.Made.{Contains-tail}
use Rattle.std.proofs.Math.Seq.{take-suc, take-length}
use Rattle.std.specs.Prelude.{AllPairs, Bool, Contains, slice_index_or}
use Rattle.dr_graph.specs.declared.edge.Edge.{Edge}
use Rattle.dr_graph.specs.Meaning.Name.{Name}
use Rattle.dr_graph.specs.Meaning.Order.{IsNext, IsInOrder, IsBuiltOrder}
use Rattle.dr_graph.specs.Meaning.Declaration.{Declaration}
use Rattle.dr_graph.specs.Meaning.Graph.{GraphView, AreChosen, HasOneGraph, upstreams_of, leads_to, names_in}

-- the first that is ready is one
pub next_once : (count : ℕ) (edges : List Edge) (placed : List ℕ) (h k : ℕ) → IsNext count edges placed h → IsNext count edges placed k → h ≡ k
next_once count edges placed h k one other =
    elim (cases_order h k) [
      | inl same ↦ same
      | inr apart ↦ elim apart [
        | inl less ↦ absurd (false≢true (sym (other.first h less) ∙ one.ready))
        | inr more ↦ absurd (false≢true (sym (one.first k more) ∙ other.ready))
      ]
    ]

orders_agree : (count : ℕ) (edges : List Edge) (xs ys : List ℕ) → IsInOrder count edges xs → IsInOrder count edges ys → (k : ℕ) → k ≤ length xs
    → k ≤ length ys → take k xs ≡ take k ys
orders_agree count edges xs ys first second zero lx ly = refl
orders_agree count edges xs ys first second (suc k) lx ly =
    let before : take k xs ≡ take k ys = orders_agree count edges xs ys first second k (omega arith) (omega arith) in
    let here : slice_index xs k ≡ slice_index ys k =
    next_once count edges (take k ys) (slice_index xs k) (slice_index ys k) (subst (λ (placed : List ℕ). IsNext count edges placed (slice_index xs k)) before (first k (omega arith))) (second k (omega arith)) in
    take-suc xs k 0 (omega arith)
    ∙ ap (λ (placed : List ℕ). placed ++ slice_index xs k ∷ []) before
    ∙ ap (λ (h : ℕ). take k ys ++ h ∷ []) here
    ∙ sym (take-suc ys k 0 (omega arith))

one_order : (count : ℕ) (edges : List Edge) (xs ys : List ℕ) → IsBuiltOrder count edges xs → IsBuiltOrder count edges ys → xs ≡ ys
one_order count edges xs ys first second =
    let lx : length xs ≡ count = first.length in
    let ly : length ys ≡ count = second.length in
    let same : length xs ≡ length ys = omega arith in
    sym (take-length xs) ∙ orders_agree count edges xs ys first.each second.each (length xs) (omega arith) (omega arith)
    ∙ ap (λ (k : ℕ). take k ys) same ∙ take-length ys

Rises : List ℕ → Type 0
Rises xs = AllPairs (λ x y. x < y) xs

rises_tail : (x : ℕ) (xs : List ℕ) → Rises (x ∷ xs) → Rises xs
unfolding Rises
rises_tail x xs old i j d lt le = old (suc i) (suc j) d (omega arith) (omega arith)

above_head : (x : ℕ) (xs : List ℕ) (n : ℕ) → Rises (x ∷ xs) → Contains xs n → x < n
unfolding Rises
above_head x xs n old c =
    (let less : x < slice_index_or xs c.0 n = old 0 (suc c.0) n (omega arith) (omega (arith, c.1)) in let e : slice_index_or xs c.0 n ≡ n = c.2 in omega arith)

head_least : (x : ℕ) (xs : List ℕ) (n : ℕ) → Rises (x ∷ xs) → Contains (x ∷ xs) n → x ≤ n
head_least x xs n old (zero, lt, e) = (let same : x ≡ n = e in omega arith)
head_least x xs n old (suc k, lt, e) = (let less : x < n = above_head x xs n old (k, omega (arith, lt), e) in omega arith)

in_tail : (x : ℕ) (xs : List ℕ) (n : ℕ) → Contains xs n → Contains (x ∷ xs) n
in_tail x xs n c = (suc c.0, omega (arith, c.1), c.2)

-- rising numbers are known by their members
rising_same : (xs ys : List ℕ) → Rises xs → Rises ys → ((n : ℕ) → Contains xs n → Contains ys n) → ((n : ℕ) → Contains ys n → Contains xs n) → xs ≡ ys
rising_same [] [] first second there back = refl
rising_same [] (y ∷ ys) first second there back = absurd (let c : Contains [] y = back y (0, omega arith, refl) in omega (arith, c.1))
rising_same (x ∷ xs) [] first second there back = absurd (let c : Contains [] x = there x (0, omega arith, refl) in omega (arith, c.1))
rising_same (x ∷ xs) (y ∷ ys) first second there back =
    let over : x ≤ y = head_least x xs y first (back y (0, omega arith, refl)) in
    let under : y ≤ x = head_least y ys x second (there x (0, omega arith, refl)) in
    let heads : x ≡ y = omega arith in
    let tails : xs ≡ ys =
    rising_same xs ys (rises_tail x xs first) (rises_tail y ys second)
    (λ n c. Contains-tail y ys n (λ same. (let less : x < n = above_head x xs n first c in let e : y ≡ n = same in omega arith)) (there n (in_tail x xs n c)))
    (λ n c. Contains-tail x xs n (λ same. (let less : y < n = above_head y ys n second c in let e : x ≡ n = same in omega arith)) (back n (in_tail y ys n c))) in
    ap (λ (h : ℕ). h ∷ xs) heads ∙ ap (λ (hs : List ℕ). y ∷ hs) tails

chosen_once : (choose : ℕ → Bool) (bound : ℕ) (xs ys : List ℕ) → AreChosen choose bound xs → AreChosen choose bound ys → xs ≡ ys
unfolding Rises
chosen_once choose bound xs ys first second =
    rising_same xs ys (AllPairs-from_increasing xs first.rising) (AllPairs-from_increasing ys second.rising)
    (λ n c. (let is : (n < bound) × (choose n ≡ true) = first.chosen n c in second.all n is.0 is.1))
    (λ n c. (let is : (n < bound) × (choose n ≡ true) = second.chosen n c in first.all n is.0 is.1))

shape_same : (names more : List Name) (lists others : List (List ℕ)) → names ≡ more → lists ≡ others
    → ◌≡◌ {A = GraphView} (record { names = names; upstreams = lists }) (record { names = more; upstreams = others })
shape_same names more lists others n l =
    ap (λ (ns : List Name). record { names = ns; upstreams = lists }) n ∙ ap (λ (ls : List (List ℕ)). record { names = more; upstreams = ls }) l

pub one_graph : (d : Declaration) → HasOneGraph d
one_graph d graph other first second =
    let order : first.order ≡ second.order = one_order (length d.names) d.edges first.order second.order first.built second.built in
    let names : graph.names ≡ other.names = first.named ∙ ap (names_in d.names) order ∙ sym second.named in
    let lx : length graph.upstreams ≡ length d.names = first.complete in
    let ly : length other.upstreams ≡ length d.names = second.complete in
    let same : length graph.upstreams ≡ length other.upstreams = omega arith in
    let lists : graph.upstreams ≡ other.upstreams = ext_get_or [] graph.upstreams other.upstreams same (λ h lt.
    chosen_once (leads_to d.edges second.order h) (length d.names) (upstreams_of graph.upstreams h) (upstreams_of other.upstreams h)
    (subst (λ (hs : List ℕ). AreChosen (leads_to d.edges hs h) (length d.names) (upstreams_of graph.upstreams h)) order (first.upstreams h (omega arith)))
    (second.upstreams h (omega arith))) in
    shape_same graph.names other.names graph.upstreams other.upstreams names lists
