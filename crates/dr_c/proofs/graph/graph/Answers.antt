use Rattle.dr_c.proofs.Asked.{all_follow, all_there}
use Rattle.dr_c.proofs.graph.graph.Goals as goal

pub returns-in-Ok-clause-all : goal.returns-in-Ok-clause-all
returns-in-Ok-clause-all c = all_there c.args.masks.now c.in-Ok.graph c.in-Ok.ensures.asked

pub returns-in-Ok-clause-follows : goal.returns-in-Ok-clause-follows
returns-in-Ok-clause-follows c = all_follow c.args.masks.now c.in-Ok.graph c.in-Ok.ensures.asked c.requires.2 c.requires.1
