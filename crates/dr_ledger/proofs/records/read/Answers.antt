use Rattle.std.proofs.Common.{[], refl}
use Rattle.dr_ledger.proofs.records.read.Goals as goal

pub returns-clause-bad : goal.returns-clause-bad
returns-clause-bad c = c.read_behind.ensures.bad [] [] refl refl
