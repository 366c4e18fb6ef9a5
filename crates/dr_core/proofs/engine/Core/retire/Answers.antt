use Rattle.std.proofs.Common.{◌≡◌, ◌<◌, arith, true, false, ◌||◌, sym, ◌∙◌}
use Rattle.std.specs.Prelude.{◌==◌}
use Rattle.std.proofs.lemmas.Bool.{not-true, not-false}
use Rattle.std.proofs.lemmas.List.{length-set}
use Rattle.dr_graph.specs.Meaning.Graph.{is_some_left, is_final_without}
use Rattle.dr_meaning.specs.Meaning.Machine.{handlers}
use Rattle.dr_core.specs.Calls.CoreView.{CoreView, retired_in}
use Rattle.dr_core.specs.Inside.Fields.{view_of}
use Rattle.dr_core.proofs.Retiring.{told, others_told, not_final_step, last_step, retire_step, retire_seen, retire_room}
use Rattle.dr_core.proofs.Gating.{written_back}
use Rattle.dr_core.proofs.Whole.{step_whole}
use Rattle.dr_core.proofs.engine.Core.retire.Goals as goal
use Rattle.dr_core.proofs.engine.Core.retire.Given.{Over}
use Rattle.dr_core.proofs.engine.Core.retire.Goals.{After-is_final_without, After-index_mut}

-- a handler that is not retired
pub record Left (g : Over) (c : After-is_final_without g) : Type 0 where
  pub inside : c.args.h < handlers (view_of c.self.inside).setup
  pub left : retired_in (view_of c.self.inside) c.args.h ≡ false

left : (g : Over) (c : After-is_final_without g) → Left g c
left g c =
    let inside : c.args.h < handlers (view_of c.self.inside).setup = omega (arith, c.len.ensures.handlers) in
    record { inside = inside; left = told (view_of c.self.inside) c.args.h c.index.result.now false c.self.invariant.whole inside c.index.ensures c.if-index.false }

pub returns-then-not-is_final_without-clause-step : goal.returns-then-not-is_final_without-clause-step
returns-then-not-is_final_without-clause-step g c =
    let L = left g (goal.at.returns-then-not-is_final_without-clause-step g c).After-is_final_without in
    rw (← c.self.view_is)
    (not_final_step (view_of c.self.inside) c.args.h c.self.invariant.whole L.inside L.left
    (rw c.deref.ensures.value at (sym c.is_final_without.ensures ∙ c.if-not-is_final_without.true)))

pub returns-then-is_last-clause-step : goal.returns-then-is_last-clause-step
returns-then-is_last-clause-step g c =
    let v : CoreView g.row.E.Denot = view_of c.self.inside in
    let L = left g (goal.at.returns-then-is_last-clause-step g c).After-is_final_without in
    let final : is_final_without v.setup.upstreams (retired_in v) c.args.h ≡ true =
    rw c.deref.ensures.value at (sym c.is_final_without.ensures ∙ c.if-not-is_final_without.false) in
    rw (← c.self.view_is)
    (last_step v c.args.h c.self.invariant.whole L.inside L.left final
    (not-true _
    (others_told v c.args.h c.deref-2.result.now c.is_last.result true c.self.invariant.whole c.deref-2.ensures.value c.is_last.ensures c.if-is_last.true)))

-- past all tests the handler is final, and another is left
pub record Last (g : Over) (c : After-index_mut g) : Type 0 where
  pub inside : c.args.h < handlers (view_of c.self.inside).setup
  pub left : retired_in (view_of c.self.inside) c.args.h ≡ false
  pub final : is_final_without (view_of c.self.inside).setup.upstreams (retired_in (view_of c.self.inside)) c.args.h ≡ true
  pub others : is_some_left (handlers (view_of c.self.inside).setup) (λ k. retired_in (view_of c.self.inside) k || k == c.args.h) ≡ true

last : (g : Over) (c : After-index_mut g) → Last g c
last g c =
    let inside : c.args.h < handlers (view_of c.self.inside).setup = omega (arith, c.len.ensures.handlers) in
    record {
      inside = inside;
      left = told (view_of c.self.inside) c.args.h c.index.result.now false c.self.invariant.whole inside c.index.ensures c.if-index.false;
      final = rw c.deref.ensures.value at (sym c.is_final_without.ensures ∙ c.if-not-is_final_without.false);
      others =
          not-false _
          (others_told
          (view_of c.self.inside) c.args.h c.deref-2.result.now c.is_last.result false c.self.invariant.whole c.deref-2.ensures.value c.is_last.ensures c.if-is_last.false);
    }

pub invariant_of-self : goal.invariant_of-self
invariant_of-self g c =
    let v : CoreView g.row.E.Denot = view_of c.self.inside in
    let L = last g (goal.at.invariant_of-self g c).After-index_mut in
    record {
      whole =
          step_whole (retire_step v c.args.h c.self.invariant.whole L.inside L.left L.final L.others)
          (length-set c.self.inside.retired.items c.args.h true) c.self.invariant.whole;
      available = c.self.invariant.available;
      gating =
          written_back c.self.inside.gating c.flag_gating.new.flags c.deref-3.result.now _ c.self.inside.graph.upstreams
          (c.flag_gating.auto.flags ∙ c.deref_mut.ensures.len) c.deref-3.ensures.value c.flag_gating.ensures;
      seen = retire_seen v c.args.h c.self.invariant.whole L.inside L.left L.final L.others c.self.inside.gate c.self.invariant.seen;
      claimable = c.self.invariant.claimable;
    }

pub returns-clause-step : goal.returns-clause-step
returns-clause-step g c =
    let L = last g (goal.at.returns-clause-step g c).After-index_mut in
    rw (← c.self.view_is) (retire_step (view_of c.self.inside) c.args.h c.self.invariant.whole L.inside L.left L.final L.others)

pub returns-clause-room : goal.returns-clause-room
returns-clause-room g c =
    let L = last g (goal.at.returns-clause-room g c).After-index_mut in
    rw (← c.self.view_is) (retire_room (view_of c.self.inside) c.args.h c.self.invariant.whole L.inside L.left L.final L.others)
