use Rattle.dr_core.proofs.Running.{step_leads_on}
use Rattle.dr_core.proofs.lawful.every_step_leads_on.Goals as goal

pub returns : goal.returns
returns g c = step_leads_on
