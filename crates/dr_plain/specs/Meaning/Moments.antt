-- What each list of steps comes to, from a ring's opening.
use Rattle.std.specs.Prelude.{◌≡◌, ℕ, zero, suc, ◌+◌, ◌-◌, ◌≤◌, ◌==◌, ◌&&◌, not, nat_lt, if◌then◌else◌, false, List, [], ◌∷◌, ◌++◌, map, length, replicate}
use Rattle.std.specs.Prelude.{slice_index, slice_index_or, Some, None, true, Contains}
use mathlib.Core.Option.{some}
use lib.ListN.{get_elem?}
use Rattle.std.specs.List.{range_with_len}
use Rattle.dr_meaning.specs.declared.command.Command.TheVariants.{Claim, Write, Publish, Complete, Halt}
use Rattle.dr_meaning.specs.declared.command.Reply.TheVariants.{Claimed, Written, Published, Completed, Halting}
use Rattle.dr_meaning.specs.Meaning.Machine as machine
use Rattle.dr_meaning.specs.Meaning.Machine.{State, available}
use Rattle.dr_meaning.specs.Meaning.Transcript.{Transcript}
use Rattle.dr_runs.specs.Runs as runs
use Rattle.dr_plain.specs.Meaning.Shape.{Shape, handlers_of, ring_setup}
use Rattle.dr_plain.specs.Meaning.Words.{words_of}
use Rattle.dr_runs.specs.OneSender.Words.{cursor_word, halt_word, count_word}
use Rattle.dr_plain.specs.declared.record.SenderRecord.{SenderRecord}
use Rattle.dr_plain.specs.declared.record.ReceiverRecord.{ReceiverRecord}
use Rattle.dr_plain.specs.declared.record.HalterRecord.{HalterRecord}
use Rattle.dr_plain.specs.Meaning.Records.{claimed, taken_at, tells_drained}
use Rattle.dr_lent.specs.Events.{events_of}
use Rattle.dr_plain.specs.Meaning.Rule.{World}
use Rattle.dr_plain.specs.declared.record.Step.{Step}
use Rattle.dr_plain.specs.declared.record.Step.TheVariants.{SenderLooksAtCount, SenderLooksAtHalt, SenderPublishes, SenderHalts, SenderCloses}
use Rattle.dr_plain.specs.declared.record.Step.TheVariants.{ReceiverLooksAtClosed, ReceiverLooksAtCursor, ReceiverLooksAtCount, ReceiverCompletes}
use Rattle.dr_plain.specs.declared.record.Step.TheVariants.{HalterHalts, HalterLooks}
use Rattle.dr_plain.specs.Meaning.Steps.{Happens, next_of}
use Rattle.dr_runs.specs.Entries.{entry, told_drained, poll_of}

module _ {T : Type 0} where
  -- the ends of a new ring
  abbrev pub fresh_sender : Shape → SenderRecord T
  fresh_sender k = record { plan = k; published = []; pending = 0; halted = false; closed = false; looks = []; before = [] }

  abbrev pub fresh_receiver : Shape → ℕ → ReceiverRecord T
  fresh_receiver k h = record { plan = k; number = h; received = []; completed = 0; told = false; looks = [] }

  -- n receivers, from the number h on
  abbrev pub fresh_receivers : Shape → ℕ → ℕ → List (ReceiverRecord T)
  fresh_receivers k h zero = []
  fresh_receivers k h (suc n) = fresh_receiver k h ∷ fresh_receivers k (suc h) n

  abbrev pub fresh_halter : Shape → HalterRecord T
  fresh_halter k = record { plan = k; halted = false; looks = [] }

  -- a new ring: each word is 0
  abbrev pub new_world : Shape → World T
  new_world k =
      record { words = replicate (words_of k) 0; sender = fresh_sender k; receivers = fresh_receivers k 0 (handlers_of k); halter = fresh_halter k }

  abbrev pub taken_of : ReceiverRecord T → ℕ
  taken_of r = length r.received

  -- what the machine is, where the ring is so
  abbrev pub picture_of : Shape → World T → State T
  picture_of k w = record (machine.opening (ring_setup k)) {
    owners = replicate (claimed w.sender) 0;
    written = λ s. slice_index_or (map (λ event. Some event) (events_of w.sender.published)) s None;
    published = λ s. nat_lt s (slice_index w.words cursor_word);
    taken = map taken_of w.receivers;
    completed = map (λ h. slice_index w.words (count_word h)) (range_with_len 0 (handlers_of k));
    halted = slice_index w.words halt_word == 1;
  }

  -- the writes of events to the sequences from s on
  abbrev pub writes_of : ℕ → List T → Transcript T
  writes_of s [] = []
  writes_of s (event ∷ events) = entry (Write 0 s event) Written [] ++ writes_of (s + 1) events

  abbrev pub receiver_at : Shape → World T → ℕ → ReceiverRecord T
  receiver_at k w h = slice_index_or w.receivers h (fresh_receiver k h)

  -- what a receiver takes at a look
  abbrev pub batch_at : Shape → World T → ℕ → ℕ → ℕ → Transcript T
  batch_at k w h word room =
      let r : ReceiverRecord T = receiver_at k w h in
      poll_of h (length r.received) (events_of (next_of w r (taken_at r word (slice_index w.words word) room))) (available (ring_setup k) (picture_of k w) h)

  -- the events of a step: a claim is decided by the sender's look at halt,
  -- its writes and a publication by the store of the cursor, a poll by its last look, and `Drained` is told by a look at the cursor
  abbrev pub entries_of : Shape → Step T → World T → Transcript T
  entries_of k (SenderLooksAtCount f) w = []
  entries_of k (SenderLooksAtHalt n) w =
      if not (n == 0) && (slice_index w.words halt_word == 0) then entry (Claim 0 n) (Claimed (claimed w.sender) (claimed w.sender + n - 1)) [] else []
  entries_of k (SenderPublishes events) w =
      let front : ℕ = slice_index w.words cursor_word in writes_of front events ++ entry (Publish 0 front (front + length events - 1)) Published []
  entries_of k SenderHalts w = entry Halt Halting []
  entries_of k SenderCloses w = []
  entries_of k (ReceiverLooksAtClosed h) w = []
  entries_of k (ReceiverLooksAtCursor h room) w =
      if tells_drained (receiver_at k w h) (slice_index w.words cursor_word) then told_drained h ∷ [] else batch_at k w h cursor_word room
  entries_of k (ReceiverLooksAtCount h u room) w = batch_at k w h (count_word u) room
  entries_of k (ReceiverCompletes h n) w = entry (Complete h n) Completed []
  entries_of k HalterHalts w = entry Halt Halting []
  entries_of k (HalterLooks word) w = []

  -- a list of steps, with the entries of their events
  abbrev pub Runs : Shape → List (Step T) → Transcript T → World T → World T → Type 0
  Runs k steps entries w w' = runs.Runs (Happens k) (entries_of k) steps entries w w'

  -- who was told that the ring drained, was told so by a poll of the run
  abbrev pub WereTold : World T → Transcript T → Type 0
  WereTold w entries = (h : ℕ) (r : ReceiverRecord T) → get_elem? w.receivers h ≡ some r → r.told ≡ true → Contains entries (told_drained h)

  -- No word falls: so what the last look of a claim without room finds was so already at its first.
  abbrev pub NothingFalls : World T → World T → Type 0
  NothingFalls w u = (word : ℕ) → slice_index w.words word ≤ slice_index u.words word
