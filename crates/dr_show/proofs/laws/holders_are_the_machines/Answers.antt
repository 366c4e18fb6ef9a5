use Rattle.dr_show.proofs.Holders.{no_room_by_others, no_room_meanwhile, within_round}
use Rattle.dr_show.proofs.laws.holders_are_the_machines.Goals as goal

pub returns-clause-waited : goal.returns-clause-waited
returns-clause-waited c = within_round

pub returns-clause-others : goal.returns-clause-others
returns-clause-others c = no_room_by_others

pub returns-clause-meanwhile : goal.returns-clause-meanwhile
returns-clause-meanwhile c = no_room_meanwhile
