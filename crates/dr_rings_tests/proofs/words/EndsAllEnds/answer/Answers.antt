use Rattle.std.proofs.Common.{ap}
use Rattle.dr_ring.proofs.Making.{all_receiver_at, all_sender}
use Rattle.dr_rings_tests.proofs.words.EndsAllEnds.answer.Goals as goal

pub returns-in-Poll : goal.returns-in-Poll
returns-in-Poll g c =
    λ all. all_receiver_at _ _ _ c.args.who _ _ all c.index_mut.ensures.value (ap (λ p. p.0) c.answer_of_outlet.ensures)
    (ap (λ p. p.2) c.answer_of_outlet.ensures)

pub returns-in_default : goal.returns-in_default
returns-in_default g c = λ all. all_sender _ _ _ _ all c.answer_of_inlet.ensures
