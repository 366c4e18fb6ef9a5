use Rattle.dr_show.proofs.Polls.{polled_alike, retired_refused}
use Rattle.dr_show.proofs.laws.polls_are_the_machines.Goals as goal

pub returns-clause-polled : goal.returns-clause-polled
returns-clause-polled c = polled_alike

pub returns-clause-retired : goal.returns-clause-retired
returns-clause-retired c = retired_refused
