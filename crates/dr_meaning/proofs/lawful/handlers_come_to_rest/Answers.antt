use Rattle.dr_meaning.proofs.Resting.{comes_to_rest}
use Rattle.dr_meaning.proofs.lawful.handlers_come_to_rest.Goals as goal

pub returns : goal.returns
returns g c = comes_to_rest
