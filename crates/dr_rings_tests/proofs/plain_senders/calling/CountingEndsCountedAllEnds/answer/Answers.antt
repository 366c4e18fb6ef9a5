use Rattle.dr_plain_senders.proofs.Together.{all_receiver, all_sender}
use Rattle.dr_rings_tests.proofs.plain_senders.calling.CountingEndsCountedAllEnds.answer.Goals as goal

pub returns-in-HaltIt : goal.returns-in-HaltIt
returns-in-HaltIt g c =
    λ all. all_sender _ _ _ c.args.who c.index_mut.result.now c.halt_by.new.sender all c.index_mut.ensures.value c.halt_by.ensures

pub returns-in-Poll : goal.returns-in-Poll
returns-in-Poll g c =
    λ all. all_receiver _ _ _ c.args.who c.index_mut-in-Poll.result.now c.answer_of_receiver.new.receiver all c.index_mut-in-Poll.ensures.value
    c.answer_of_receiver.ensures

pub returns-in_default : goal.returns-in_default
returns-in_default g c =
    λ all. all_sender _ _ _ c.args.who c.index_mut-in_default.result.now c.answer_of_sender.new.sender all c.index_mut-in_default.ensures.value
    c.answer_of_sender.ensures
