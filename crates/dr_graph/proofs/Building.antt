-- The graph of a declaration, from its built order.
use Rattle.std.proofs.Common.{◌≡◌, ℕ, ◌<◌, ◌≤◌, inl, inr, List, [], sym, ◌∙◌, ap, subst, arith, length, slice_index}
use Rattle.std.proofs.lemmas.Bool.{cases_order}
use Rattle.std.proofs.lemmas.List.{get_or-map, length-map}
use Rattle.std.specs.Prelude.{slice_index_or}
use Rattle.dr_graph.specs.Meaning.Name.{Name, AreDistinct}
use Rattle.dr_graph.specs.Meaning.Order.{IsBuiltOrder}
use Rattle.dr_graph.specs.Meaning.Declaration.{Declaration, IsDeclaration}
use Rattle.dr_graph.specs.Meaning.Graph.{IsGraph, IsGraphOf, AreLists, names_in}
use Rattle.dr_graph.specs.Inside.KeptGraph.{IsShape}
use Rattle.dr_graph.proofs.Orders.{once}
use Rattle.dr_graph.proofs.Chosen.{upstreams_whole, layered_lists, rising_lists}
use Rattle.dr_graph.proofs.Gating.{finals_gate}

-- the names of an order are distinct
distinct_names : (d : Declaration) (order : List ℕ) → AreDistinct d.names → IsBuiltOrder (length d.names) d.edges order → AreDistinct (names_in d.names order)
distinct_names d order old built i j e before lt same =
    let many : length (names_in d.names order) ≡ length order = length-map order (λ h. slice_index_or d.names h []) in
    let lj : j < length order = omega arith in
    let li : i < length order = omega arith in
    let at_i : slice_index_or (names_in d.names order) i e ≡ slice_index_or d.names (slice_index order i) [] =
    get_or-map (λ (h : ℕ). slice_index_or d.names h []) order i 0 e li in
    let at_j : slice_index_or (names_in d.names order) j e ≡ slice_index_or d.names (slice_index order j) [] =
    get_or-map (λ (h : ℕ). slice_index_or d.names h []) order j 0 e lj in
    let names : slice_index_or d.names (slice_index order i) [] ≡ slice_index_or d.names (slice_index order j) [] = sym at_i ∙ same ∙ at_j in
    elim (cases_order (slice_index order i) (slice_index order j)) [
      | inl equal ↦ (let twice : i ≡ j = once (length d.names) d.edges order built.each i j li lj equal in omega arith)
      | inr apart ↦ elim apart [
        | inl less ↦ old (slice_index order i) (slice_index order j) [] less (built.each j lj).declared names
        | inr more ↦ old (slice_index order j) (slice_index order i) [] more (built.each i li).declared (sym names)
      ]
    ]

-- what was found of a declaration: an order, and by it each handler's name and direct upstreams
pub record IsFound (d : Declaration) (order : List ℕ) (names : List Name) (lists : List (List ℕ)) : Type 0 where
  pub declared : IsDeclaration d
  pub some : 0 < length d.names
  pub built : IsBuiltOrder (length d.names) d.edges order
  pub each : AreLists d.edges order lists
  pub same : length lists ≡ length order
  pub named : names ≡ names_in d.names order

pub graph_lawful : (d : Declaration) (order : List ℕ) (names : List Name) (lists : List (List ℕ)) → IsFound d order names lists → IsGraph lists
graph_lawful d order names lists is =
    let some = is.some in
    let same = is.same in
    let few : length d.names ≤ 16 = is.declared.few in
    let whole : length order ≡ length d.names = is.built.length in
    record {
      some = omega arith;
      few = omega arith;
      layered = layered_lists d.edges order lists is.each;
      rising = rising_lists d.edges order lists is.each;
      gate = finals_gate lists (layered_lists d.edges order lists is.each);
    }

pub shape_of_order : (d : Declaration) (order : List ℕ) (names : List Name) (lists : List (List ℕ)) → IsFound d order names lists
    → IsShape (record { names = names; upstreams = lists })
shape_of_order d order names lists is =
    let same = is.same in
    let count : length names ≡ length order = ap length is.named ∙ length-map order (λ h. slice_index_or d.names h []) in
    record {
      lawful = graph_lawful d order names lists is;
      named = omega arith;
      distinct = subst (λ (ns : List Name). AreDistinct ns) (sym is.named) (distinct_names d order is.declared.distinct is.built);
    }

pub graph_of_order : (d : Declaration) (order : List ℕ) (names : List Name) (lists : List (List ℕ)) → IsFound d order names lists
    → IsGraphOf d (record { names = names; upstreams = lists })
graph_of_order d order names lists is =
    let same = is.same in
    let whole : length order ≡ length d.names = is.built.length in
    record {
      order = order;
      built = is.built;
      named = is.named;
      complete = omega arith;
      upstreams = upstreams_whole (length d.names) d.edges order lists is.built is.each same;
    }
