use Rattle.std.proofs.Common.{refl}
use Rattle.dr_core.specs.Inside.Fields.{view_of}
use Rattle.dr_core.proofs.CoreSteps.{halt_step}
use Rattle.dr_core.proofs.Whole.{step_whole}
use Rattle.dr_core.proofs.engine.Core.halt.Goals as goal

pub invariant_of-self : goal.invariant_of-self
invariant_of-self g c = record {
  whole = step_whole (halt_step (view_of c.self.inside)) refl c.self.invariant.whole;
  available = c.self.invariant.available;
  gating = c.self.invariant.gating;
  seen = c.self.invariant.seen;
  claimable = refl;
}

pub returns : goal.returns
returns g c = rw (← c.self.view_is) (halt_step _)
