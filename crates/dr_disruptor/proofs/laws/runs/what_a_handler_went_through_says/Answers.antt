use Rattle.std.proofs.Common.{length}
use Rattle.dr_disruptor.proofs.Marked.{all_marked}
use Rattle.dr_disruptor.proofs.laws.runs.what_a_handler_went_through_says.Goals as goal

pub returns-clause-goes : goal.returns-clause-goes
returns-clause-goes g c most start after events is = (is.through, is.order, is.dealt)

pub returns-clause-batches : goal.returns-clause-batches
returns-clause-batches g c most start after events is = is.polled

pub returns-clause-marked : goal.returns-clause-marked
returns-clause-marked g c most start after events is few = all_marked most (length events) 0 is.batches few is.order is.polled
