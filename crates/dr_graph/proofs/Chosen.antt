-- Lists of chosen numbers, made by going up.
use Rattle.std.proofs.Common.{◌≡◌, ℕ, zero, suc, ◌+◌, ◌<◌, inl, inr, Bool, true, false, List, [], ◌∷◌, ◌++◌, arith, sym, ◌∙◌, ap, subst, length, slice_index}
use Rattle.std.proofs.lemmas.Bool.{false≢true, cases_lt, cases_eq}
use Rattle.std.proofs.lemmas.List.{get_or_append_left, get_or_push, get_or_past, length_push}
use Rattle.std.proofs.lemmas.List.Elements.{Contains-append_left, Contains-push, Contains-push_cases}
use Rattle.std.proofs.lemmas.Grind.{common_steps}
use Rattle.std.specs.Prelude.{Contains, slice_index_or}
use Rattle.std.specs.List.Sorted.{IsStrictlyIncreasing}
use Rattle.dr_graph.specs.declared.edge.Edge.{Edge}
use Rattle.dr_graph.specs.Meaning.Order.{IsBuiltOrder}
use Rattle.dr_graph.specs.Meaning.Graph.{AreChosen, AreLists, IsLayered, leads_to, upstreams_of}
use Rattle.dr_graph.proofs.Orders.{upstream_earlier}

pub chosen_none : (choose : ℕ → Bool) → AreChosen choose 0 []
chosen_none choose = record { chosen = λ n c. absurd (omega (arith, c.1)); all = λ n lt yes. absurd (omega arith); rising = λ k lt. absurd (omega arith) }

pub chosen_skip : (choose : ℕ → Bool) (n : ℕ) (ns : List ℕ) → AreChosen choose n ns → choose n ≡ false → AreChosen choose (n + 1) ns
chosen_skip choose n ns old skip = record {
  chosen = λ m c. (let o : (m < n) × (choose m ≡ true) = old.chosen m c in (omega (arith, o.0), o.1));
  all = λ m lt good. elim (cases_eq m n) [
    | inl e ↦ absurd (false≢true (sym skip ∙ ap choose (sym e) ∙ good))
    | inr ne ↦ old.all m (let f : m ≡ n → ⊥ = ne in omega arith) good
  ];
  rising = old.rising;
}

rising_push : (ns : List ℕ) (n : ℕ) → IsStrictlyIncreasing ns → ((m : ℕ) → Contains ns m → m < n) → IsStrictlyIncreasing (ns ++ n ∷ [])
rising_push ns n old below k lt =
    let longer : length (ns ++ n ∷ []) ≡ length ns + 1 = length_push ns n in
    let in_old : k < length ns = omega arith in
    let here : slice_index (ns ++ n ∷ []) k ≡ slice_index ns k = get_or_append_left ns (n ∷ []) 0 k in_old in
    elim (cases_lt (k + 1) (length ns)) [
      | inl inside ↦ (
          let next : slice_index (ns ++ n ∷ []) (k + 1) ≡ slice_index ns (k + 1) = get_or_append_left ns (n ∷ []) 0 (k + 1) inside in
          let was : slice_index ns k < slice_index ns (k + 1) = old k inside in
          omega arith)
      | inr edge ↦ (
          let last : length ns ≡ k + 1 = omega arith in
          let next : slice_index (ns ++ n ∷ []) (k + 1) ≡ n = get_or_push ns n 0 (k + 1) last in
          let less : slice_index ns k < n = below (slice_index ns k) (k, in_old, grind (arith, common_steps)) in
          omega arith)
    ]

pub chosen_push : (choose : ℕ → Bool) (n : ℕ) (ns longer : List ℕ) → AreChosen choose n ns → choose n ≡ true → longer ≡ ns ++ n ∷ []
    → AreChosen choose (n + 1) longer
chosen_push choose n ns longer old good e =
    subst (λ (xs : List ℕ). AreChosen choose (n + 1) xs) (sym e)
    (record {
      chosen = λ m c. elim (Contains-push_cases ns n m c) [
        | inl inside ↦ (let o : (m < n) × (choose m ≡ true) = old.chosen m inside in (omega (arith, o.0), o.1))
        | inr same ↦ (omega arith, ap choose (sym same) ∙ good)
      ];
      all = λ m lt is. elim (cases_eq m n) [
        | inl same ↦ subst (λ (x : ℕ). Contains (ns ++ n ∷ []) x) (sym same) (Contains-push ns n)
        | inr ne ↦ Contains-append_left ns (n ∷ []) m (old.all m (let f : m ≡ n → ⊥ = ne in omega arith) is)
      ];
      rising = rising_push ns n old.rising (λ m c. (old.chosen m c).0);
    })

pub lists_push : (edges : List Edge) (order : List ℕ) (lists : List (List ℕ)) (ups : List ℕ) → AreLists edges order lists
    → AreChosen (leads_to edges order (length lists)) (length lists) ups → AreLists edges order (lists ++ ups ∷ [])
lists_push edges order lists ups old new h lt =
    elim (cases_lt h (length lists)) [
      | inl inside ↦ (
          let here : slice_index_or (lists ++ ups ∷ []) h [] ≡ slice_index_or lists h [] = get_or_append_left lists (ups ∷ []) [] h inside in
          subst (λ (xs : List ℕ). AreChosen (leads_to edges order h) h xs) (sym here) (old h inside))
      | inr edge ↦ (
          let longer : length (lists ++ ups ∷ []) ≡ length lists + 1 = length_push lists ups in
          let last : length lists ≡ h = omega arith in
          let here : slice_index_or (lists ++ ups ∷ []) h [] ≡ ups = get_or_push lists ups [] h last in
          subst (λ (xs : List ℕ). AreChosen (leads_to edges order h) h xs) (sym here) (subst (λ (k : ℕ). AreChosen (leads_to edges order k) k ups) last new))
    ]

beyond : (lists : List (List ℕ)) (h u : ℕ) → Contains (upstreams_of lists h) u → h < length lists
beyond [] h u c = absurd (omega (arith, c.1))
beyond (ups ∷ lists) zero u c = omega arith
beyond (ups ∷ lists) (suc h) u c = (let l : h < length lists = beyond lists h u c in omega arith)

-- in a whole built order each list has all upstreams
pub upstreams_whole : (count : ℕ) (edges : List Edge) (order : List ℕ) (lists : List (List ℕ)) → IsBuiltOrder count edges order
    → AreLists edges order lists → length lists ≡ length order → (h : ℕ) → h < count → AreChosen (leads_to edges order h) count (upstreams_of lists h)
upstreams_whole count edges order lists built each same h lt =
    let whole : length order ≡ count = built.length in
    let l : h < length lists = omega arith in
    let here : AreChosen (leads_to edges order h) h (upstreams_of lists h) = each h l in
    record {
      chosen = λ n c. (let o : (n < h) × (leads_to edges order h n ≡ true) = here.chosen n c in (omega (arith, o.0), o.1));
      all = λ n below good. here.all n (upstream_earlier count edges order built.each n h (omega arith) (omega arith) good) good;
      rising = here.rising;
    }

pub layered_lists : (edges : List Edge) (order : List ℕ) (lists : List (List ℕ)) → AreLists edges order lists → IsLayered lists
layered_lists edges order lists each h u c = ((each h (beyond lists h u c)).chosen u c).0

pub rising_lists : (edges : List Edge) (order : List ℕ) (lists : List (List ℕ)) → AreLists edges order lists → (h : ℕ)
    → IsStrictlyIncreasing (upstreams_of lists h)
rising_lists edges order lists each h =
    elim (cases_lt h (length lists)) [
      | inl inside ↦ (each h inside).rising
      | inr outside ↦ subst (λ (xs : List ℕ). IsStrictlyIncreasing xs) (sym (get_or_past lists h [] outside)) (λ k lt. absurd (omega arith))
    ]
