use Rattle.dr_meaning.proofs.FiveLaws.{lawful}
use Rattle.dr_meaning.proofs.lawful.every_transcript_is_lawful.Goals as goal

pub returns : goal.returns
returns g c = lawful
