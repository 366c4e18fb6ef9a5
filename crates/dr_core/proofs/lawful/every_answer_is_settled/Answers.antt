use Rattle.dr_core.proofs.Going.{settled}
use Rattle.dr_core.proofs.lawful.every_answer_is_settled.Goals as goal

pub returns : goal.returns
returns g c = settled
