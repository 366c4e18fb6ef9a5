use Rattle.std.proofs.Common.{ap, sym, ◌∙◌}
use Rattle.disruptor.specs.Faults.{program_status}
use Rattle.disruptor.proofs.Fault.status.Goals as goal

pub returns-in-Line : goal.returns-in-Line
returns-in-Line c = c.status.ensures ∙ ap program_status (sym c.in-Line.is)

pub returns-in-Check : goal.returns-in-Check
returns-in-Check c = c.status-in-Check.ensures ∙ ap program_status (sym c.in-Check.is)

pub returns-in-Drive : goal.returns-in-Drive
returns-in-Drive c = c.status-in-Drive.ensures ∙ ap program_status (sym c.in-Drive.is)

pub returns-in-Replay : goal.returns-in-Replay
returns-in-Replay c = c.status-in-Replay.ensures ∙ ap program_status (sym c.in-Replay.is)

pub returns-in-Memory : goal.returns-in-Memory
returns-in-Memory c = ap program_status (sym c.in-Memory.is)

pub returns-in-Read : goal.returns-in-Read
returns-in-Read c = ap program_status (sym c.in-Read.is)

pub returns-in-Write : goal.returns-in-Write
returns-in-Write c = ap program_status (sym c.in-Write.is)

pub returns-in-Start : goal.returns-in-Start
returns-in-Start c = c.status-in-Start.ensures ∙ ap program_status (sym c.in-Start.is)

pub returns-in-Ledger : goal.returns-in-Ledger
returns-in-Ledger c = c.status-in-Ledger.ensures ∙ ap program_status (sym c.in-Ledger.is)
