use Rattle.dr_meaning.proofs.Finishing.{can_finish}
use Rattle.dr_meaning.proofs.lawful.every_state_can_finish.Goals as goal

pub returns : goal.returns
returns g c = can_finish
