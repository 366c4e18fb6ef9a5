use Rattle.std.proofs.Common.{refl}
use Rattle.dr_disruptor.proofs.laws.runs.what_a_team_says.Goals as goal

pub returns-clause-list : goal.returns-clause-list
returns-clause-list g c most events team after went = (went.many, went.each)

pub returns-clause-places_in_a_list : goal.returns-clause-places_in_a_list
returns-clause-places_in_a_list g c team = refl

pub returns-clause-pair : goal.returns-clause-pair
returns-clause-pair g c most events team after went = went

pub returns-clause-places_in_a_pair : goal.returns-clause-places_in_a_pair
returns-clause-places_in_a_pair g c team = refl

pub returns-clause-triple : goal.returns-clause-triple
returns-clause-triple g c most events team after went = went

pub returns-clause-places_in_a_triple : goal.returns-clause-places_in_a_triple
returns-clause-places_in_a_triple g c team = refl
