use Rattle.dr_meaning.proofs.Progress.{nobody_is_stuck}
use Rattle.dr_meaning.proofs.lawful.nobody_is_stuck.Goals as goal

pub returns : goal.returns
returns g c = nobody_is_stuck
