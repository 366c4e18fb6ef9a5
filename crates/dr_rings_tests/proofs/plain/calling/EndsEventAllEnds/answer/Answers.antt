use Rattle.std.proofs.Common.{refl}
use Rattle.dr_plain.proofs.Keeping.{all_receiver_at, still_all}
use Rattle.dr_rings_tests.proofs.plain.calling.EndsEventAllEnds.answer.Goals as goal

pub returns-in-Poll : goal.returns-in-Poll
returns-in-Poll g c = λ all. all_receiver_at _ _ _ c.args.who _ _ all c.index_mut.ensures.value c.answer_of_outlet.ensures

pub returns-in_default : goal.returns-in_default
returns-in_default g c =
    λ all. still_all _ _ _ _ _ c.answer_of_inlet.ensures refl all
