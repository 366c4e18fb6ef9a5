use Rattle.dr_show.proofs.Tags.{data_free}
use Rattle.dr_show.proofs.laws.no_tag_opens_in_the_data.Goals as goal

pub returns : goal.returns
returns c = data_free
