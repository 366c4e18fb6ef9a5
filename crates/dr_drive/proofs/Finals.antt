-- Which handlers claims wait for, by flags that tell those that are retired.
use Rattle.std.proofs.Common.{◌≡◌, ℕ, zero, suc, ◌+◌, ◌<◌, ◌≤◌, Bool, not, List, refl, ap, ◌∙◌, arith, length, map, filter, slice_index}
use Rattle.std.specs.Prelude.{◌&&◌}
use Rattle.std.specs.List.{list_any, range_with_len}
use Rattle.dr_graph.specs.Meaning.Graph.{is_final_without, is_followed, least_of, upstreams_of}
use Rattle.dr_graph.specs.Meaning.Order.{is_in}
use Rattle.dr_meaning.specs.Meaning.Machine.{handlers}
use Rattle.dr_meaning.proofs.Leasts.{IsLeastOf}
use Rattle.dr_core.specs.Calls.CoreView.{CoreView, gate_of, retired_in}

-- two tests that agree on some numbers find alike among them
any_below : (p q : ℕ → Bool) (a n : ℕ) → ((k : ℕ) → a ≤ k → k < a + n → p k ≡ q k) → list_any p (range_with_len a n) ≡ list_any q (range_with_len a n)
any_below p q a zero same = refl
any_below p q a (suc n) same = rw (same a (omega arith) (omega arith), any_below p q (a + 1) n (λ k low high. same k (omega arith) (omega arith))) refl

pub final_below : (graph : List (List ℕ)) (gone other : ℕ → Bool) → ((k : ℕ) → k < length graph → gone k ≡ other k) → (h : ℕ) → h < length graph
    → is_final_without graph gone h ≡ is_final_without graph other h
final_below graph gone other same h inside =
    let followed : is_followed graph gone h ≡ is_followed graph other h = any_below (λ k. not (gone k) && is_in (upstreams_of graph k) h) (λ k. not (other k) && is_in (upstreams_of graph k) h) 0 (length graph)
    (λ k low high. ap (λ b. not b && is_in (upstreams_of graph k) h) (same k (omega arith))) in
    ap (λ b. not b && not (is_followed graph gone h)) (same h inside) ∙ ap (λ b. not (other h) && not b) followed

-- the least count that a scan of all handlers finds
pub gate_found : {E : Type 0} (v : CoreView E) (found : Bool) (least n : ℕ) → n ≡ handlers v.setup
    → IsLeastOf (is_final_without v.setup.upstreams (retired_in v)) (λ k. slice_index v.completed k) n found least → least ≡ gate_of v
gate_found v found least n all is =
    is.lowest ∙ ap (λ bound. least_of (map (λ k. slice_index v.completed k) (filter (is_final_without v.setup.upstreams (retired_in v)) (range_with_len 0 bound)))) all
