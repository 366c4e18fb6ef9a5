use Rattle.dr_meaning.proofs.FiveLaws.{reached}
use Rattle.dr_meaning.proofs.lawful.every_transcript_tells_its_state.Goals as goal

pub returns : goal.returns
returns g c = λ setup t m leads. (reached setup t m leads).tells
