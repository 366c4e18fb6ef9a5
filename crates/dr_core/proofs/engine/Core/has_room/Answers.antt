use Rattle.std.proofs.Common.{◌≡◌, ℕ, ◌+◌, ◌<◌, ◌≤◌, ◌^◌, refl, ◌∙◌, Bool, List, length, map, filter, slice_index, arith}
use Rattle.std.specs.List.{range_with_len}
use Rattle.dr_graph.specs.Meaning.Graph.{flagged, least_of}
use Rattle.dr_core.specs.Calls.CoreView.{CoreView, AreGating, retired_in, gate_of}
use Rattle.dr_core.specs.Inside.Fields.{view_of}
use Rattle.dr_core.proofs.Gating.{flagged_least, seen_below, seen_now, room_fits}
use Rattle.dr_core.proofs.engine.Core.has_room.Goals as goal

-- what the scan of the flags found
least_is : {E : Type 0} (v : CoreView E) (counts : List ℕ) (flags kept : List Bool) (n : ℕ) → AreGating kept v.setup.upstreams (retired_in v) → counts ≡ v.completed
    → flags ≡ kept
    → n ≡ least_of (map (λ h. slice_index counts h) (filter (flagged flags) (range_with_len 0 (length flags)))) → n ≡ gate_of v
least_is v counts flags kept n gating a b e = (rw (a, b) at e) ∙ flagged_least v.setup.upstreams (retired_in v) kept (λ h. slice_index v.completed h) gating

pub raise-requires : goal.raise-requires
raise-requires g c =
    let v : CoreView g.row.E.Denot = view_of c.self.inside in
    let low : c.self.inside.gate ≤ gate_of v = seen_below v c.self.invariant.whole c.self.inside.gate c.self.invariant.seen in
    let least : c.least_flagged.result ≡ gate_of v = least_is v _ _ _ _ c.self.invariant.gating c.deref.ensures.value c.deref-2.ensures.value c.least_flagged.ensures in
    omega arith

pub overflow_add-room : goal.overflow_add-room
overflow_add-room g c =
    let v : CoreView g.row.E.Denot = view_of c.self.inside in
    let fits : v.setup.size + gate_of v < 2 ^ 63 = room_fits v c.self.invariant.whole in
    let least : c.least_flagged.result ≡ gate_of v = least_is v _ _ _ _ c.self.invariant.gating c.deref.ensures.value c.deref-2.ensures.value c.least_flagged.ensures in
    let found : c.seen.result ≡ gate_of v = c.seen.ensures ∙ c.raise.ensures ∙ least in
    omega (arith, c.get.ensures.value)

pub invariant_of-self : goal.invariant_of-self
invariant_of-self g c =
    let v : CoreView g.row.E.Denot = view_of c.self.inside in
    let least : c.least_flagged.result ≡ gate_of v = least_is v _ _ _ _ c.self.invariant.gating c.deref.ensures.value c.deref-2.ensures.value c.least_flagged.ensures in
    let found : c.seen.result ≡ gate_of v = c.seen.ensures ∙ c.raise.ensures ∙ least in
    let size : c.get.result ≡ v.setup.size = c.get.ensures.value in
    record {
      whole = c.self.invariant.whole;
      available = c.self.invariant.available;
      gating = c.self.invariant.gating;
      seen = seen_now v c.self.invariant.whole _ (let low : c.least_flagged.result ≤ gate_of v = omega arith in rw c.raise.ensures low);
      claimable = rw (rw (← c.self.view_is) at c.requires).going (omega (arith, c.raise.ensures));
    }

pub returns-clause-room : goal.returns-clause-room
returns-clause-room g c =
    let v : CoreView g.row.E.Denot = view_of c.self.inside in
    let least : c.least_flagged.result ≡ gate_of v = least_is v _ _ _ _ c.self.invariant.gating c.deref.ensures.value c.deref-2.ensures.value c.least_flagged.ensures in
    let found = c.seen.ensures ∙ c.raise.ensures ∙ least in
    rw (← c.self.view_is) (rw (c.get.ensures.value, found) refl)
