-- Where each handler that is left has an upstream that is left, there is a cycle.
use Rattle.std.proofs.Common.{◌≡◌, ◌⊎◌, ℕ, zero, suc, ◌+◌, ◌<◌, ◌≤◌, inl, inr, true, false, List, [], ◌∷◌, ◌++◌, arith, refl, sym, ap}
use Rattle.std.proofs.lemmas.Bool.{false≢true, eqb-true, eq-eqb, ne_eqb, cases_Bool, or_cases, or_left}
use Rattle.std.specs.Prelude.{◌==◌, ◌||◌}
use Rattle.dr_graph.specs.declared.edge.Edge.{Edge}
use Rattle.dr_graph.specs.Meaning.Order.{is_in, is_upstream, IsPath, HasCycle}
use Rattle.dr_graph.proofs.Spare.{spare, spare_falls}

-- a path that comes by a handler has a beginning that ends there
closes : (edges : List Edge) (from : ℕ) (hs : List ℕ) (h : ℕ) → IsPath edges from hs → is_in (from ∷ hs) h ≡ true
    → (between : List ℕ) × ((up : ℕ) → is_upstream edges up from ≡ true → IsPath edges up (between ++ h ∷ []))
closes edges from [] h path there =
    elim (or_cases (from == h) false there) [
      | inl here ↦ (let e : from ≡ h = eqb-true from h here in ([], λ up edge. (rw (← e) edge, tt)))
      | inr never ↦ absurd (false≢true never)
    ]
closes edges from (next ∷ hs) h path there =
    elim (or_cases (from == h) (is_in (next ∷ hs) h) there) [
      | inl here ↦ (let e : from ≡ h = eqb-true from h here in ([], λ up edge. (rw (← e) edge, tt)))
      | inr later ↦ (
          let rest : (between : List ℕ) × ((up : ℕ) → is_upstream edges up next ≡ true → IsPath edges up (between ++ h ∷ [])) =
          closes edges next hs h path.1 later in
          (from ∷ rest.0, λ up edge. (edge, rest.1 from path.0)))
    ]

-- what is in a list with one more in front
in_front : (h k : ℕ) (hs : List ℕ) → (k ≡ h → ⊥) → is_in (h ∷ hs) k ≡ is_in hs k
in_front h k hs ne = ap (λ b. b || is_in hs k) (ne_eqb h k (λ e. ne (sym e)))

-- one step upstream comes to a handler that the walk has met, or leaves fewer that it has not
one_step :
    (edges : List Edge) (count : ℕ) (left : ℕ → Type 0)
    → ((h : ℕ) → left h → (u : ℕ) × (u < count) × left u × (is_upstream edges u h ≡ true))
    → (from : ℕ) (hs : List ℕ) → left from → IsPath edges from hs
    → HasCycle edges ⊎ ((u : ℕ) × left u × IsPath edges u (from ∷ hs) × (spare (is_in (u ∷ from ∷ hs)) count + 1 ≡ spare (is_in (from ∷ hs)) count))
one_step edges count left up from hs here path =
    let next : (u : ℕ) × (u < count) × left u × (is_upstream edges u from ≡ true) = up from here in
    elim (cases_Bool (is_in (from ∷ hs) next.0)) [
      | inl met ↦ (
          let circle : (between : List ℕ) × ((w : ℕ) → is_upstream edges w from ≡ true → IsPath edges w (between ++ next.0 ∷ [])) =
          closes edges from hs next.0 path met in
          inl (record { handler = next.0; between = circle.0; path = circle.1 next.0 next.3 }))
      | inr new ↦ (
          let fewer : spare (is_in (next.0 ∷ from ∷ hs)) count + 1 ≡ spare (is_in (from ∷ hs)) count =
          spare_falls (is_in (from ∷ hs)) (is_in (next.0 ∷ from ∷ hs)) next.0 count next.1 new (or_left (next.0 == next.0) _ (eq-eqb next.0 next.0 refl)) (λ k ne. in_front next.0 k (from ∷ hs) ne) in
          inr (next.0, next.2, (next.3, path), fewer))
    ]

pub walk :
    (edges : List Edge) (count : ℕ) (left : ℕ → Type 0)
    → ((h : ℕ) → left h → (u : ℕ) × (u < count) × left u × (is_upstream edges u h ≡ true))
    → (fuel : ℕ) (from : ℕ) (hs : List ℕ) → left from → IsPath edges from hs → spare (is_in (from ∷ hs)) count ≤ fuel → HasCycle edges
walk edges count left up zero from hs here path enough =
    elim (one_step edges count left up from hs here path) [ inl found ↦ found | inr more ↦ (let fewer : spare (is_in (more.0 ∷ from ∷ hs)) count + 1 ≡ spare (is_in (from ∷ hs)) count = more.3 in absurd (omega arith)) ]
walk edges count left up (suc fuel) from hs here path enough =
    elim (one_step edges count left up from hs here path) [
      | inl found ↦ found
      | inr more ↦ (
          let fewer : spare (is_in (more.0 ∷ from ∷ hs)) count + 1 ≡ spare (is_in (from ∷ hs)) count = more.3 in
          walk edges count left up fuel more.0 (from ∷ hs) more.1 more.2 (omega arith))
    ]
