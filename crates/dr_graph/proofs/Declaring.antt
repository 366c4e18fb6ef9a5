-- Declarations with more names and more edges.
use Rattle.std.proofs.Common.{
  ◌≡◌,
  ℕ,
  zero,
  suc,
  ◌+◌,
  ◌-◌,
  ◌<◌,
  ◌≤◌,
  inl,
  inr,
  true,
  List,
  [],
  ◌∷◌,
  ◌++◌,
  sym,
  ◌∙◌,
  ap,
  subst,
  arith,
  length,
  length-append,
  map,
  None,
  Bor,
  String,
  Global,
}
use Rattle.std.proofs.lemmas.List.{length-map}
use Rattle.std.proofs.lemmas.Bool.{false≢true, or_cases, and_parts, eqb-true}
use Rattle.std.proofs.lemmas.List.Folds.{list_any-append}
use Rattle.std.specs.Prelude.{◌==◌, ◌&&◌, ◌||◌}
use Rattle.std.specs.List.{list_all, range_with_len}
use Rattle.dr_graph.specs.declared.edge.Edge.{Edge}
use Rattle.dr_graph.specs.Meaning.Name.{Name, texts, given, AreDistinct, is_named, index_of}
use Rattle.dr_graph.specs.Meaning.Order.{is_upstream, AreWithin}
use Rattle.dr_graph.specs.Meaning.Declaration.{Declaration, name_faults, edges_to, edges_between, IsDeclaration}
use Rattle.dr_graph.proofs.Adding.{text}
use Rattle.dr_graph.proofs.NewNames.{distinct_new, new_all}
use Rattle.dr_graph.proofs.Places.{place_named}

pub within_more : (few many : ℕ) (edges : List Edge) → AreWithin few edges → few ≤ many → AreWithin many edges
within_more few many edges old le up down edge =
    let ends : (up < few) × (down < few) = old up down edge in
    (omega (arith, ends.0), omega (arith, ends.1))

-- more names without fault, and edges between all of them
pub declared_more : (d : Declaration) (more names : List Name) (edges : List Edge) → IsDeclaration d → name_faults d.names more ≡ None
    → length d.names + length more ≤ 16 → names ≡ d.names ++ more → AreWithin (length d.names + length more) edges
    → IsDeclaration (record { names = names; edges = edges })
declared_more d more names edges old free room grown within =
    let count : length names ≡ length d.names + length more = ap length grown ∙ length-append d.names more in
    record {
      few = omega arith;
      distinct = subst (λ (ns : List Name). AreDistinct ns)
          (ap (λ (ns : List Name). d.names ++ ns) (new_all d.names d.names more (λ n new. new) free) ∙ sym grown)
          (distinct_new d.names more old.distinct);
      within = subst (λ (k : ℕ). AreWithin k edges) (sym count) within;
    }

is_upstream_append : (xs ys : List Edge) (u d : ℕ) → is_upstream (xs ++ ys) u d ≡ (is_upstream xs u d || is_upstream ys u d)
is_upstream_append xs ys u d = list_any-append (λ e. (e.up == u) && (e.down == d)) xs ys

-- edges of both lists lie within
pub within_append : (count : ℕ) (xs ys : List Edge) → AreWithin count xs → AreWithin count ys → AreWithin count (xs ++ ys)
within_append count xs ys first second u d edge =
    elim (or_cases (is_upstream xs u d) (is_upstream ys u d) (sym (is_upstream_append xs ys u d) ∙ edge)) [
      | inl here ↦ first u d here
      | inr there ↦ second u d there
    ]

within_none : (count : ℕ) → AreWithin count []
within_none count u d edge = absurd (false≢true edge)

within_cons : (count : ℕ) (e : Edge) (es : List Edge) → e.up < count → e.down < count → AreWithin count es → AreWithin count (e ∷ es)
within_cons count e es up down rest u d edge =
    elim (or_cases ((e.up == u) && (e.down == d)) (is_upstream es u d) edge) [
      | inl here ↦ (
          let ends : ((e.up == u) ≡ true) × ((e.down == d) ≡ true) = and_parts (e.up == u) (e.down == d) here in
          let a : e.up ≡ u = eqb-true e.up u ends.0 in
          let b : e.down ≡ d = eqb-true e.down d ends.1 in
          (omega arith, omega arith))
      | inr later ↦ rest u d later
    ]

pub within_push : (count : ℕ) (edges : List Edge) (e : Edge) → AreWithin count edges → e.up < count → e.down < count → AreWithin count (edges ++ e ∷ [])
within_push count edges e old up down = within_append count edges (e ∷ []) old (within_cons count e [] up down (within_none count))

-- the places of declared names lie within
within_to : (declared group : List Name) (count down : ℕ) → list_all (is_named declared) group ≡ true → length declared ≤ count → down < count
    → AreWithin count (edges_to (map (index_of declared) group) down)
within_to declared [] count down all le lt = within_none count
within_to declared (n ∷ group) count down all le lt =
    let parts : (is_named declared n ≡ true) × (list_all (is_named declared) group ≡ true) =
    and_parts (is_named declared n) (list_all (is_named declared) group) all in
    let place : index_of declared n < length declared = place_named declared n parts.0 in
    within_cons count (record { up = index_of declared n; down = down }) (edges_to (map (index_of declared) group) down) (omega arith) lt (within_to declared group count down parts.1 le lt)

pub within_between : (declared group : List Name) (count first more : ℕ) → list_all (is_named declared) group ≡ true → length declared ≤ count
    → first + more ≤ count → AreWithin count (edges_between (map (index_of declared) group) (range_with_len first more))
within_between declared group count first zero all le room = within_none count
within_between declared group count first (suc more) all le room =
    within_append count (edges_to (map (index_of declared) group) first) (edges_between (map (index_of declared) group) (range_with_len (first + 1) more))
    (within_to declared group count first all le (omega arith))
    (within_between declared group count (first + 1) more all le (omega arith))

-- the room that was tested for keys, told of their names
pub room_of : (keys : List (String Global)) (names : List (Bor (List ℕ))) → length keys + length names ≤ 16 → length (texts keys) + length (given names) ≤ 16
room_of keys names room =
    let a : length (texts keys) ≡ length keys = length-map keys text in
    let b : length (given names) ≡ length names = length-map names (λ (n : Bor (List ℕ)). n.now) in
    omega arith

-- the edges of a declaration that a group's followers join
pub followed_within : (d : Declaration) (group more : List Name) (all shown : List Edge) (places ups : List ℕ) (first end : ℕ) → IsDeclaration d
    → list_all (is_named d.names) group ≡ true → first ≡ length d.names → end ≡ first + length more → shown ≡ d.edges → ups ≡ places
    → places ≡ map (index_of d.names) group → all ≡ shown ++ edges_between ups (range_with_len first (end - first))
    → AreWithin (length d.names + length more) all
followed_within d group more all shown places ups first end old known begins ends same_edges same_places numbered whole =
    let count : ℕ = length d.names + length more in
    let numbers : ups ≡ map (index_of d.names) group = same_places ∙ numbered in
    subst (λ (es : List Edge). AreWithin count es) (sym (whole ∙ ap (λ (es : List Edge). es ++ edges_between ups (range_with_len first (end - first))) same_edges))
    (within_append count d.edges (edges_between ups (range_with_len first (end - first)))
    (within_more (length d.names) count d.edges old.within (omega arith))
    (subst (λ (us : List ℕ). AreWithin count (edges_between us (range_with_len first (end - first)))) (sym numbers)
    (within_between d.names group count first (end - first) known (omega arith) (omega arith))))
