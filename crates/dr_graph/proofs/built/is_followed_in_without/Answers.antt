use Rattle.std.proofs.Common.{◌≡◌, ◌<◌, ℕ, Bool, sym, ap, ◌∙◌, arith, length, map, Vec, Global, [], List}
use Rattle.std.specs.Prelude.{not, ◌&&◌, get_or}
use Rattle.std.proofs.lemmas.List.{get_or-map, length-map}
use Rattle.dr_graph.specs.Meaning.Order.{is_in}
use Rattle.dr_graph.specs.Meaning.Graph.{upstreams_of, flagged}
use Rattle.dr_graph.proofs.Gating.{any_more, any_here}
use Rattle.dr_graph.proofs.built.is_followed_in_without.Goals as goal

-- the test of one handler, as it was made
tested : (lists : List (Vec ℕ Global)) (gone : List Bool) (h k : ℕ) (at : Vec ℕ Global) (ups : List ℕ) (r : Bool) → k < length lists
    → at ≡ get_or lists k at → ups ≡ at.items → r ≡ (not (flagged gone k) && is_in ups h)
    → (not (flagged gone k) && is_in (upstreams_of (map (λ (v : Vec ℕ Global). v.items) lists) k) h) ≡ r
tested lists gone h k at ups r lt is same told =
    ap (λ (us : List ℕ). not (flagged gone k) && is_in us h) (get_or-map (λ (v : Vec ℕ Global). v.items) lists k at [] lt ∙ ap (λ (v : Vec ℕ Global). v.items) (sym is) ∙ sym same) ∙ sym told

pub returns-then-is_upstream_left : goal.returns-then-is_upstream_left
returns-then-is_upstream_left c =
    let p : ℕ → Bool = λ k. not (flagged c.args.gone.now k) && is_in (upstreams_of (map (λ (v : Vec ℕ Global). v.items) c.args.upstreams.now) k) c.args.h in
    let n = length (map (λ (v : Vec ℕ Global). v.items) c.args.upstreams.now) in
    let many : n ≡ length c.args.upstreams.now = length-map c.args.upstreams.now (λ (v : Vec ℕ Global). v.items) in
    sym (any_here p n c.loop-k.k (omega arith)
    (tested c.args.upstreams.now c.args.gone.now c.args.h c.loop-k.k c.index-upstreams-k.result c.deref.result.now c.is_upstream_left.result (omega arith) c.index-upstreams-k.is c.deref.ensures.value c.is_upstream_left.ensures ∙ c.if-is_upstream_left.true))

pub loop-k-preserved : goal.loop-k-preserved
loop-k-preserved c =
    let p : ℕ → Bool = λ k. not (flagged c.args.gone.now k) && is_in (upstreams_of (map (λ (v : Vec ℕ Global). v.items) c.args.upstreams.now) k) c.args.h in
    any_more p c.loop-k.k c.loop-k.invariant
    (tested c.args.upstreams.now c.args.gone.now c.args.h c.loop-k.k c.index-upstreams-k.result c.deref.result.now c.is_upstream_left.result (omega arith) c.index-upstreams-k.is c.deref.ensures.value c.is_upstream_left.ensures ∙ c.if-is_upstream_left.false)
