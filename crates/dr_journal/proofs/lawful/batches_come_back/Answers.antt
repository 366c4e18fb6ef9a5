use Rattle.dr_journal.proofs.Laws.{read_frame, read_behind, read_broken}
use Rattle.dr_journal.proofs.lawful.batches_come_back.Goals as goal

pub returns-clause-alone : goal.returns-clause-alone
returns-clause-alone c = read_frame

pub returns-clause-behind : goal.returns-clause-behind
returns-clause-behind c = read_behind

pub returns-clause-broken : goal.returns-clause-broken
returns-clause-broken c = read_broken
