use Rattle.dr_meaning.proofs.FiveLaws.{retirement_keeps}
use Rattle.dr_meaning.proofs.lawful.retirement_keeps_the_gate.Goals as goal

pub returns : goal.returns
returns g c = retirement_keeps
