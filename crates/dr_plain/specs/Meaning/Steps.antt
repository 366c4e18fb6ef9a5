-- The steps of a ring: each is one load or one store of one word, by one end.
use Rattle.std.specs.Prelude.{◌≡◌, ℕ, ◌+◌, ◌<◌, ◌≤◌, true, List, take, drop, length, slice_index, slice_set, Contains}
use mathlib.Core.Option.{some}
use lib.ListN.{get_elem?}
use Rattle.dr_graph.specs.Meaning.Graph.{upstreams_of, finals}
use Rattle.dr_lent.specs.declared.lent.Lent.{Lent}
use Rattle.dr_plain.specs.Meaning.Shape.{Shape}
use Rattle.dr_plain.specs.Meaning.Words.{words_of}
use Rattle.dr_runs.specs.OneSender.Words.{cursor_word, closed_word, halt_word, count_word}
use Rattle.dr_plain.specs.declared.record.Step.{Step}
use Rattle.dr_plain.specs.declared.record.Step.TheVariants.{SenderLooksAtCount, SenderLooksAtHalt, SenderPublishes, SenderHalts, SenderCloses}
use Rattle.dr_plain.specs.declared.record.Step.TheVariants.{ReceiverLooksAtClosed, ReceiverLooksAtCursor, ReceiverLooksAtCount, ReceiverCompletes}
use Rattle.dr_plain.specs.declared.record.Step.TheVariants.{HalterHalts, HalterLooks}
use Rattle.dr_plain.specs.declared.record.SenderRecord.{SenderRecord}
use Rattle.dr_plain.specs.declared.record.ReceiverRecord.{ReceiverRecord}
use Rattle.dr_plain.specs.Meaning.Records.{sender_looked, halt_looked, published_more, sender_halted, sender_closed, closed_looked}
use Rattle.dr_lent.specs.Events.{events_of}
use Rattle.dr_plain.specs.Meaning.Records.{receiver_looked, taken_at, cursor_looked, completed_to, halter_halted, halter_looked, SeesRoom}
use Rattle.dr_plain.specs.Meaning.Rule.{World}

module _ {T : Type 0} where
  -- the sender's record changes, and no word
  abbrev pub sender_knows : World T → SenderRecord T → World T
  sender_knows w r = record w { sender = r }

  -- the sender stores a word
  abbrev pub sender_stores : World T → ℕ → ℕ → SenderRecord T → World T
  sender_stores w word n r = record w { words = slice_set w.words word n; sender = r }

  abbrev pub receiver_knows : World T → ℕ → ReceiverRecord T → World T
  receiver_knows w h r = record w { receivers = slice_set w.receivers h r }

  abbrev pub receiver_stores : World T → ℕ → ReceiverRecord T → ℕ → ℕ → World T
  receiver_stores w h r word n = record w { words = slice_set w.words word n; receivers = slice_set w.receivers h r }

  -- a step of the receiver h, whose record is r
  abbrev pub ByReceiver : World T → ℕ → (ReceiverRecord T → Type 0) → Type 0
  ByReceiver w h Does = (r : ReceiverRecord T) × (get_elem? w.receivers h ≡ some r) × Does r

  -- the next events of a receiver, so many
  abbrev pub next_of : World T → ReceiverRecord T → ℕ → List (Lent T)
  next_of w r n = take n (drop (length r.received) w.sender.published)

  -- a step leads from one world to another
  abbrev pub Happens : Shape → Step T → World T → World T → Type 0
  Happens k (SenderLooksAtCount f) w w' =
      Contains (finals k.upstreams) f × (w' ≡ sender_knows w (sender_looked w.sender (count_word f) (slice_index w.words (count_word f))))
  Happens k (SenderLooksAtHalt n) w w' =
      (0 < n → SeesRoom k w.sender n) × (w' ≡ sender_knows w (halt_looked w.sender n (slice_index w.words halt_word)))
  Happens k (SenderPublishes events) w w' =
      (lents : List (Lent T)) × (events_of lents ≡ events) × (0 < length lents) × (length lents ≤ w.sender.pending)
      × (w' ≡ sender_stores w cursor_word (length w.sender.published + length lents) (published_more w.sender lents))
  Happens k SenderHalts w w' = w' ≡ sender_stores w halt_word 1 (sender_halted w.sender)
  Happens k SenderCloses w w' = (w.sender.halted ≡ true) × (w.sender.pending ≡ 0) × (w' ≡ sender_stores w closed_word 1 (sender_closed w.sender))
  Happens k (ReceiverLooksAtClosed h) w w' =
      ByReceiver w h (λ r. w' ≡ receiver_knows w h (closed_looked r (slice_index w.words closed_word)))
  Happens k (ReceiverLooksAtCursor h room) w w' =
      ByReceiver w h (λ r. let found : ℕ = slice_index w.words cursor_word in
      w' ≡ receiver_knows w h (cursor_looked r found (next_of w r (taken_at r cursor_word found room))))
  Happens k (ReceiverLooksAtCount h u room) w w' =
      ByReceiver w h (λ r. let found : ℕ = slice_index w.words (count_word u) in
      Contains (upstreams_of k.upstreams h) u
      × (w' ≡ receiver_knows w h (receiver_looked r (count_word u) found (next_of w r (taken_at r (count_word u) found room)))))
  Happens k (ReceiverCompletes h n) w w' =
      ByReceiver w h (λ r. (r.completed ≤ n) × (n ≤ length r.received) × (w' ≡ receiver_stores w h (completed_to r n) (count_word h) n))
  Happens k HalterHalts w w' = w' ≡ record w { words = slice_set w.words halt_word 1; halter = halter_halted w.halter }
  Happens k (HalterLooks word) w w' =
      (word < words_of k) × (w' ≡ record w { halter = halter_looked w.halter word (slice_index w.words word) })
