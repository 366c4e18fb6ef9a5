-- What is noted of a sender's open sequences.
use Rattle.std.specs.Prelude.{◌≡◌, ℕ, ◌+◌, ◌<◌, ◌≤◌, false, is_some, length, slice_index_or, None}
use Rattle.dr_seq.specs.Rounds.{is_marked}
use Rattle.dr_runs.specs.declared.written.Written.{Written}
use Rattle.dr_runs.specs.OneSender.Noted.{is_noted}
use Rattle.dr_ring.specs.declared.record.SenderRecord.{SenderRecord}
use Rattle.dr_ring.specs.Meaning.Records.{claimed}

-- an open sequence is noted exactly where it is written, and nothing is marked before it is claimed
pub record Noted (r : SenderRecord) (w : Written) : Type 0 where
  pub slots : length w.ahead ≡ r.plan.size
  pub upto : w.upto ≤ claimed r
  pub fresh : (s : ℕ) → claimed r ≤ s → is_marked w.ahead s ≡ false
  pub each : (i : ℕ) → i < length r.sent.pending → is_noted w (length r.sent.published + i) ≡ is_some (slice_index_or r.sent.pending i None)
