use Rattle.std.proofs.Common.{refl, ◌≡◌, ◌<◌, ◌≤◌, slice_index, length, get_or, false, arith}
use Rattle.std.proofs.lemmas.List.{get_or_read}
use Rattle.dr_meaning.specs.Meaning.Machine.{handlers}
use Rattle.dr_core.specs.Calls.CoreView.{CoreView}
use Rattle.dr_core.specs.Calls.Shows.{CanComplete}
use Rattle.dr_core.specs.Inside.Fields.{view_of}
use Rattle.dr_core.proofs.CoreSteps.{complete_step, completed_grows}
use Rattle.dr_core.proofs.Retiring.{told}
use Rattle.dr_core.proofs.Whole.{step_whole}
use Rattle.dr_core.proofs.engine.Core.complete.Goals as goal
use Rattle.dr_core.proofs.engine.Core.complete.Given.{Over}
use Rattle.dr_core.proofs.engine.Core.complete.Goals.{After-index_mut}

-- the handler completes what it took
completes : (g : Over) (c : After-index_mut g) → CanComplete (view_of c.self.inside) c.args.h c.args.upto
completes g c =
    let inside : c.args.h < handlers (view_of c.self.inside).setup = omega (arith, c.len.ensures.handlers) in
    let taken : length c.self.inside.taken.items ≡ handlers (view_of c.self.inside).setup = c.self.invariant.whole.taken_len in
    let completed : length c.self.inside.completed.items ≡ handlers (view_of c.self.inside).setup = c.self.invariant.whole.completed_len in
    let a : c.index-2.result.now ≡ get_or c.self.inside.completed.items c.args.h 0 =
    get_or_read c.self.inside.completed.items c.args.h c.index-2.result.now (omega arith) c.index-2.ensures 0 in
    let b : c.index-3.result.now ≡ get_or c.self.inside.taken.items c.args.h 0 =
    get_or_read c.self.inside.taken.items c.args.h c.index-3.result.now (omega arith) c.index-3.ensures 0 in
    record {
      handler = inside;
      left = told (view_of c.self.inside) c.args.h c.index.result.now false c.self.invariant.whole inside c.index.ensures c.if-index.false;
      completed = omega arith;
      taken = omega arith;
    }

pub invariant_of-self : goal.invariant_of-self
invariant_of-self g c =
    let v : CoreView g.row.E.Denot = view_of c.self.inside in
    let can : CanComplete v c.args.h c.args.upto = completes g (goal.at.invariant_of-self g c).After-index_mut in
    record {
      whole = step_whole (complete_step v c.args.h c.args.upto can) refl c.self.invariant.whole;
      available = c.self.invariant.available;
      gating = c.self.invariant.gating;
      seen = λ f has. (let old : c.self.inside.gate ≤ slice_index v.completed f = c.self.invariant.seen f has in
          omega (arith, completed_grows v c.args.h c.args.upto c.self.invariant.whole can f));
      claimable = c.self.invariant.claimable;
    }

pub returns-clause-step : goal.returns-clause-step
returns-clause-step g c =
    rw (← c.self.view_is) (complete_step (view_of c.self.inside) c.args.h c.args.upto (completes g (goal.at.returns-clause-step g c).After-index_mut))
