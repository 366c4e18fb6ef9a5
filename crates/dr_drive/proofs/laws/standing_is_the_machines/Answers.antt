use Rattle.dr_drive.proofs.Standings.{claim_given, given_fits, poll_gives, poll_gives_none}
use Rattle.dr_drive.proofs.laws.standing_is_the_machines.Goals as goal

pub returns-clause-claimed : goal.returns-clause-claimed
returns-clause-claimed c = claim_given

pub returns-clause-most : goal.returns-clause-most
returns-clause-most c = given_fits

pub returns-clause-batch : goal.returns-clause-batch
returns-clause-batch c = poll_gives

pub returns-clause-nothing : goal.returns-clause-nothing
returns-clause-nothing c = poll_gives_none
