use Rattle.std.proofs.Common.{◌≡◌, ◌<◌, ℕ, sym, ap, ◌∙◌, length, List, map, slice_index, arith}
use Rattle.std.proofs.lemmas.Bool.{eqb-false}
use Rattle.dr_graph.specs.Meaning.Graph.{upstreams_of, least_of}
use Rattle.dr_core.specs.Calls.CoreView.{CoreView}
use Rattle.dr_core.specs.Inside.Fields.{view_of}
use Rattle.dr_core.specs.Calls.Shows.{offered_to}
use Rattle.dr_core.proofs.Polling.{offered_some, ups_within}
use Rattle.dr_core.proofs.engine.Core.available.Goals as goal

pub least_count-requires : goal.least_count-requires
least_count-requires g c =
    rw c.deref.ensures.value (ups_within (view_of c.self.inside) c.self.invariant.whole c.args.h c.upstreams-upstreams.result.now c.upstreams-upstreams.ensures)

-- what the scan of the upstreams found
found : {E : Type 0} (v : CoreView E) (ups counts : List ℕ) (n h : ℕ) → ups ≡ upstreams_of v.setup.upstreams h → counts ≡ v.completed → 0 < length ups
    → n ≡ least_of (map (λ k. slice_index counts k) ups) → n ≡ offered_to v (upstreams_of v.setup.upstreams h)
found v ups counts n h a b some e =
    let r : n ≡ least_of (map (λ k. slice_index v.completed k) ups) = rw b at e in
    r ∙ offered_some v ups some ∙ ap (offered_to v) a

pub returns-else-is_empty : goal.returns-else-is_empty
returns-else-is_empty g c =
    let ne = eqb-false _ _ (sym c.if-is_empty.ensures) in
    let some : 0 < length c.upstreams-upstreams.result.now = omega arith in
    rw (← c.self.view_is) (found (view_of c.self.inside) _ _ _ c.args.h c.upstreams-upstreams.ensures c.deref.ensures.value some c.least_count.ensures)
