use Rattle.dr_core.specs.Inside.Fields.{view_of}
use Rattle.dr_core.proofs.Going.{never_stuck}
use Rattle.dr_core.proofs.engine.Core.is_never_stuck.Goals as goal

pub returns : goal.returns
returns g c = rw (← c.self.view_is) (never_stuck (view_of c.self.inside) c.self.invariant.whole)
