-- The steps of a ring: each is one load or one store of one word, by one end.
use Rattle.std.specs.Prelude.{◌≡◌, ℕ, ◌<◌, ◌≤◌, true, [], length, slice_index, slice_set, Some, None, Contains}
use mathlib.Core.Option.{some}
use lib.ListN.{get_elem?}
use Rattle.dr_graph.specs.Meaning.Graph.{upstreams_of, finals}
use Rattle.dr_ring.specs.Meaning.Shape.{Shape}
use Rattle.dr_ring.specs.Meaning.Words.{payload_word}
use Rattle.dr_runs.specs.OneSender.Words.{cursor_word, closed_word, halt_word, count_word}
use Rattle.dr_ring.specs.declared.record.HalfWrite.{HalfWrite}
use Rattle.dr_ring.specs.declared.record.Step.{Step}
use Rattle.dr_ring.specs.declared.record.Step.TheVariants.{SenderLooksAtCount, SenderLooksAtHalt, SenderStoresFirst, SenderStoresSecond}
use Rattle.dr_ring.specs.declared.record.Step.TheVariants.{SenderPublishes, SenderHalts, SenderCloses, ReceiverLooksAtClosed, ReceiverLooksAtCursor}
use Rattle.dr_ring.specs.declared.record.Step.TheVariants.{ReceiverLooksAtCount, ReceiverLoadsFirst, ReceiverLoadsSecond, ReceiverCompletes}
use Rattle.dr_ring.specs.declared.record.Step.TheVariants.{HalterHalts}
use Rattle.dr_ring.specs.declared.record.SenderRecord.{SenderRecord}
use Rattle.dr_ring.specs.declared.record.ReceiverRecord.{ReceiverRecord}
use Rattle.dr_ring.specs.Meaning.Records.{claimed, sender_looked, halt_looked, half_written, written, published_to, sender_halted, sender_closed}
use Rattle.dr_ring.specs.Meaning.Records.{receiver_looked, cursor_looked, half_taken, took, completed_to, halter_halted, SeesRoom, IsOpen, AreWritten}
use Rattle.dr_ring.specs.Meaning.Records.{IsBelowBarrier}
use Rattle.dr_ring.specs.Meaning.Rule.{World}

-- the sender's record changes, and no word
abbrev pub sender_knows : World → SenderRecord → World
sender_knows w r = record w { sender = r }

-- the sender stores a word
abbrev pub sender_stores : World → ℕ → ℕ → SenderRecord → World
sender_stores w word n r = record w { words = slice_set w.words word n; sender = r }

abbrev pub receiver_knows : World → ℕ → ReceiverRecord → World
receiver_knows w h r = record w { receivers = slice_set w.receivers h r }

abbrev pub receiver_stores : World → ℕ → ReceiverRecord → ℕ → ℕ → World
receiver_stores w h r word n = record w { words = slice_set w.words word n; receivers = slice_set w.receivers h r }

-- a step of the receiver h, whose record is r
abbrev pub ByReceiver : World → ℕ → (ReceiverRecord → Type 0) → Type 0
ByReceiver w h Does = (r : ReceiverRecord) × (get_elem? w.receivers h ≡ some r) × Does r

-- a step leads from one world to another
abbrev pub Happens : Shape → Step → World → World → Type 0
Happens k (SenderLooksAtCount f) w w' =
    Contains (finals k.upstreams) f × (w' ≡ sender_knows w (sender_looked w.sender (count_word f) (slice_index w.words (count_word f))))
Happens k (SenderLooksAtHalt n) w w' =
    (0 < n → SeesRoom k w.sender n) × (w' ≡ sender_knows w (halt_looked w.sender n (slice_index w.words halt_word)))
Happens k (SenderStoresFirst s first) w w' =
    IsOpen w.sender s × (w.sender.half ≡ None) × (w' ≡ sender_stores w (payload_word k s 0) first (half_written w.sender s first))
Happens k (SenderStoresSecond second) w w' =
    (x : HalfWrite) × (w.sender.half ≡ Some x) × (w' ≡ sender_stores w (payload_word k x.sequence 1) second (written w.sender x.sequence record { first = x.first; second = second }))
Happens k (SenderPublishes n) w w' =
    (length w.sender.sent.published < n) × (n ≤ claimed w.sender) × AreWritten w.sender n × (w.sender.half ≡ None) × (w' ≡ sender_stores w cursor_word n (published_to w.sender n))
Happens k SenderHalts w w' = w' ≡ sender_stores w halt_word 1 (sender_halted w.sender)
Happens k SenderCloses w w' =
    (w.sender.halted ≡ true) × (w.sender.sent.pending ≡ []) × (w' ≡ sender_stores w closed_word 1 (sender_closed w.sender))
Happens k (ReceiverLooksAtClosed h) w w' =
    ByReceiver w h (λ r. w' ≡ receiver_knows w h (receiver_looked r closed_word (slice_index w.words closed_word)))
Happens k (ReceiverLooksAtCursor h) w w' = ByReceiver w h (λ r. w' ≡ receiver_knows w h (cursor_looked r (slice_index w.words cursor_word)))
Happens k (ReceiverLooksAtCount h u) w w' =
    ByReceiver w h (λ r. Contains (upstreams_of k.upstreams h) u × (w' ≡ receiver_knows w h (receiver_looked r (count_word u) (slice_index w.words (count_word u)))))
Happens k (ReceiverLoadsFirst h) w w' =
    ByReceiver w h (λ r. IsBelowBarrier k h r × (w' ≡ receiver_knows w h (half_taken r (slice_index w.words (payload_word k (length r.received) 0)))))
Happens k (ReceiverLoadsSecond h) w w' =
    ByReceiver w h (λ r. (first : ℕ) × (r.half ≡ Some first) × IsBelowBarrier k h r × (w' ≡ receiver_knows w h (took r record { first = first; second = slice_index w.words (payload_word k (length r.received) 1) })))
Happens k (ReceiverCompletes h n) w w' =
    ByReceiver w h (λ r. (r.completed ≤ n) × (n ≤ length r.received) × (w' ≡ receiver_stores w h (completed_to r n) (count_word h) n))
Happens k HalterHalts w w' = w' ≡ record w { words = slice_set w.words halt_word 1; halter = halter_halted w.halter }
