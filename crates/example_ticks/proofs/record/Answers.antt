use Rattle.example_ticks.proofs.Counting.{counts_batch}
use Rattle.example_ticks.proofs.record.Goals as goal

pub loop-preserved-in-Ok-Batch : goal.loop-preserved-in-Ok-Batch
loop-preserved-in-Ok-Batch g c =
    let batch = c.in-Ok-Batch in
    (tt, tt, counts_batch 64 batch.field-0-0 batch.count batch.field-0-2 c.loop.invariant.2 (rw batch.field-0-is at batch.ensures))
