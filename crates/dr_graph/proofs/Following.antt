-- Edges to handlers that follow a group.
use Rattle.std.proofs.Common.{◌≡◌, ℕ, zero, suc, ◌+◌, ◌-◌, ◌≤◌, List, [], ◌∷◌, ◌++◌, ◌∙◌, ap, arith, append-nil}
use Rattle.std.proofs.lemmas.Grind.{flat_map-append}
use Rattle.std.specs.List.{range_with_len}
use Rattle.dr_graph.specs.declared.edge.Edge.{Edge}
use Rattle.dr_graph.specs.Meaning.Declaration.{edges_to, edges_between}

pub range_more : (a n : ℕ) → range_with_len a (suc n) ≡ range_with_len a n ++ (a + n) ∷ []
range_more a zero = ap (λ (k : ℕ). k ∷ []) (let e : a ≡ a + 0 = omega arith in e)
range_more a (suc n) =
    ap (λ (ks : List ℕ). a ∷ ks) (range_more (a + 1) n ∙ ap (λ (k : ℕ). range_with_len (a + 1) n ++ k ∷ []) (let e : a + 1 + n ≡ a + suc n = omega arith in e))

-- one handler more that follows
pub between_more : (ups : List ℕ) (first down : ℕ) → first ≤ down
    → edges_between ups (range_with_len first (down + 1 - first)) ≡ edges_between ups (range_with_len first (down - first)) ++ edges_to ups down
between_more ups first down le =
    let n : ℕ = down - first in
    let count : down + 1 - first ≡ suc n = omega arith in
    let last : first + n ≡ down = omega arith in
    ap (λ (k : ℕ). edges_between ups (range_with_len first k)) count
    ∙ ap (edges_between ups) (range_more first n)
    ∙ flat_map-append (edges_to ups) (range_with_len first n) ((first + n) ∷ [])
    ∙ ap (λ (es : List Edge). edges_between ups (range_with_len first n) ++ es) (append-nil (edges_to ups (first + n)) ∙ ap (edges_to ups) last)
