-- The seats that stand for the ends of a ring, the rule that the words' table keeps, and what each kind of step tells.
use Rattle.std.specs.Prelude.{◌≡◌, ℕ, List, [], map, ◌∷◌, Some}
use Rattle.dr_seq.specs.declared.event.Event.{Event}
use Rattle.atomic_table.specs.Seated.{TableId}
use Rattle.dr_ring.specs.declared.record.ReceiverRecord.{ReceiverRecord}
use Rattle.dr_ring.specs.declared.record.EndRecord.TheVariants.{Receives, Sends, Halts}
use Rattle.dr_ring.specs.Meaning.Shape.{Shape, IsShape, handlers_of}
use Rattle.dr_ring.specs.Meaning.Moments.{fresh_sender, fresh_receivers, fresh_halter, fresh_receiver, new_world, entries_of}
use mathlib.Core.Option.{some}
use lib.ListN.{get_elem?}
use Rattle.atomic_table.specs.Table.{State, Step as TableStep}
use Rattle.dr_runs.specs.declared.view.View.{View}
use Rattle.dr_runs.specs.Runs.{Ends, Exchange, receiver_number}
use Rattle.dr_runs.specs.Seats as seats
use Rattle.dr_runs.specs.Seats.{alone, fresh_view}
use Rattle.dr_ring.specs.Meaning.Words.{words_of}
use Rattle.dr_ring.specs.declared.record.HalfWrite.{HalfWrite}
use Rattle.dr_ring.specs.declared.record.SenderRecord.{SenderRecord}
use Rattle.dr_ring.specs.declared.record.HalterRecord.{HalterRecord}
use Rattle.dr_ring.specs.declared.record.EndRecord.{EndRecord}
use Rattle.dr_ring.specs.Meaning.Records.{sender_looked, halt_looked, half_written, written, published_to, sender_halted, sender_closed}
use Rattle.dr_ring.specs.Meaning.Records.{receiver_looked, cursor_looked, half_taken, took, completed_to, halter_halted}
use Rattle.dr_ring.specs.Meaning.Rule.{World}
use Rattle.dr_ring.specs.Calls.Finds.{FindsCompleted, FindsHalt, FindsClosed, FindsEvents}
use Rattle.dr_ring.specs.Meaning.Steps.{Happens}
use Rattle.dr_ring.specs.Meaning.Stores.{is_store_of}
use Rattle.dr_ring.specs.declared.record.Step.{Step}

-- a seat: what is known of its ends and, with it, the run as it was at each end's last step
abbrev pub End : Type 0
End = seats.End ℕ EndRecord

abbrev pub Sitting : Type 0
Sitting = seats.Sitting ℕ EndRecord Step

abbrev pub end_number : EndRecord → ℕ
end_number (Sends r) = 0
end_number (Halts r) = 1
end_number (Receives r) = receiver_number r.number

abbrev pub ring_ends : Ends EndRecord Step
ring_ends = record { number_of = end_number; is_store_of = is_store_of }

-- what the first end of a view stored since the ring's opening
abbrev pub stored_of : View EndRecord Step → List Step
stored_of v = seats.stored_of ring_ends v

-- the record is that of the end in the world
abbrev pub Stands : World → EndRecord → Type 0
Stands w (Sends r) = w.sender ≡ r
Stands w (Halts r) = w.halter ≡ r
Stands w (Receives r) = get_elem? w.receivers r.number ≡ some r

-- the world of a table's words with these records
abbrev pub world_of : List ℕ → SenderRecord → List ReceiverRecord → HalterRecord → World
world_of words sender receivers halter = record { words = words; sender = sender; receivers = receivers; halter = halter }

-- a ring by its steps
abbrev pub exchange : Shape → Exchange Event ℕ EndRecord Step World
exchange k = record {
  ends = ring_ends;
  IsMade = IsShape k;
  opening = new_world k;
  words_of = λ w. w.words;
  Lies = λ w homes. Unit {0};
  Stands = Stands;
  Happens = Happens k;
  entries_of = entries_of k;
}

-- the rule of a ring as its table's
abbrev pub Ruled : Shape → State ℕ (View EndRecord Step) → Type 0
Ruled k s = seats.Ruled (exchange k) s

-- the records of n receivers from the number h on
abbrev pub known_receivers : Shape → ℕ → ℕ → List EndRecord
known_receivers k h n = map (λ r. Receives r) (fresh_receivers k h n)

-- the ends of a new ring: the sender, the halter, and the receivers
abbrev pub fresh_ends : Shape → List EndRecord
fresh_ends k = Sends (fresh_sender k) ∷ Halts (fresh_halter k) ∷ known_receivers k 0 (handlers_of k)

-- the view that has them all
abbrev pub all_ends : Shape → View EndRecord Step
all_ends k = fresh_view (fresh_ends k)

-- a seat at a table with the words of a ring
abbrev pub IsAtTable : TableId → TableId → Shape → Type 0
IsAtTable seat table k = (seat ≡ table) × (table.words ≡ words_of k)

-- a seat that stands for one end alone
abbrev pub as_sender : SenderRecord → End
as_sender r = alone (Sends r)

abbrev pub as_receiver : ReceiverRecord → End
as_receiver r = alone (Receives r)

abbrev pub as_halter : HalterRecord → End
as_halter r = alone (Halts r)

abbrev pub no_shape : Shape
no_shape = record { upstreams = []; size = 0; limit = 0 }

-- the first record of a view
abbrev pub sender_of : List EndRecord → SenderRecord
sender_of (Sends r ∷ es) = r
sender_of _ = fresh_sender no_shape

abbrev pub receiver_of : List EndRecord → ReceiverRecord
receiver_of (Receives r ∷ es) = r
receiver_of _ = fresh_receiver no_shape 0

abbrev pub halter_of : List EndRecord → HalterRecord
halter_of (Halts r ∷ es) = r
halter_of _ = fresh_halter no_shape

abbrev pub IsSender : End → Type 0
IsSender me = me ≡ as_sender (sender_of me.0)

abbrev pub IsReceiver : End → Type 0
IsReceiver me = me ≡ as_receiver (receiver_of me.0)

abbrev pub IsHalter : End → Type 0
IsHalter me = me ≡ as_halter (halter_of me.0)

-- what a load and a store tell their end
abbrev pub Loads : (TableStep ℕ → End → ℕ → End → Type 0) → TableStep ℕ → Sitting → ℕ → Sitting → Type 0
Loads Tells s me n me' = seats.Loads ring_ends Tells s me n me'

abbrev pub Stores : (End → ℕ → Step) → (TableStep ℕ → End → ℕ → End → Type 0) → TableStep ℕ → Sitting → ℕ → Sitting → Type 0
Stores step Tells s me n me' = seats.Stores ring_ends (λ s. step) Tells s me n me'

-- What each kind of step tells: of the seat before and the word found or stored, the seat after.
abbrev pub SenderLookedAtCount : TableStep ℕ → End → ℕ → End → Type 0
SenderLookedAtCount s me n me' = (me' ≡ as_sender (sender_looked (sender_of me.0) s.word n)) × FindsCompleted (sender_of me.0) s.word n

abbrev pub SenderLookedAtHalt : ℕ → TableStep ℕ → End → ℕ → End → Type 0
SenderLookedAtHalt more s me n me' = (me' ≡ as_sender (halt_looked (sender_of me.0) more n)) × FindsHalt (sender_of me.0) n

abbrev pub SenderStoredFirst : ℕ → TableStep ℕ → End → ℕ → End → Type 0
SenderStoredFirst sequence s me n me' = me' ≡ as_sender (half_written (sender_of me.0) sequence n)

abbrev pub SenderStoredSecond : TableStep ℕ → End → ℕ → End → Type 0
SenderStoredSecond s me n me' =
    (x : HalfWrite) → (sender_of me.0).half ≡ Some x → me' ≡ as_sender (written (sender_of me.0) x.sequence record { first = x.first; second = n })

abbrev pub SenderPublished : TableStep ℕ → End → ℕ → End → Type 0
SenderPublished s me n me' = me' ≡ as_sender (published_to (sender_of me.0) n)

abbrev pub SenderHalted : TableStep ℕ → End → ℕ → End → Type 0
SenderHalted s me n me' = me' ≡ as_sender (sender_halted (sender_of me.0))

abbrev pub SenderClosed : TableStep ℕ → End → ℕ → End → Type 0
SenderClosed s me n me' = me' ≡ as_sender (sender_closed (sender_of me.0))

abbrev pub ReceiverLookedAtClosed : TableStep ℕ → End → ℕ → End → Type 0
ReceiverLookedAtClosed s me n me' = (me' ≡ as_receiver (receiver_looked (receiver_of me.0) s.word n)) × FindsClosed (receiver_of me.0) s.word n

abbrev pub ReceiverLookedAtCursor : TableStep ℕ → End → ℕ → End → Type 0
ReceiverLookedAtCursor s me n me' = (me' ≡ as_receiver (cursor_looked (receiver_of me.0) n)) × FindsEvents (receiver_of me.0) s.word n

abbrev pub ReceiverLookedAtCount : TableStep ℕ → End → ℕ → End → Type 0
ReceiverLookedAtCount s me n me' = (me' ≡ as_receiver (receiver_looked (receiver_of me.0) s.word n)) × FindsEvents (receiver_of me.0) s.word n

abbrev pub ReceiverLoadedFirst : TableStep ℕ → End → ℕ → End → Type 0
ReceiverLoadedFirst s me n me' = me' ≡ as_receiver (half_taken (receiver_of me.0) n)

abbrev pub ReceiverLoadedSecond : TableStep ℕ → End → ℕ → End → Type 0
ReceiverLoadedSecond s me n me' =
    (first : ℕ) → (receiver_of me.0).half ≡ Some first → me' ≡ as_receiver (took (receiver_of me.0) record { first = first; second = n })

abbrev pub ReceiverCompleted : TableStep ℕ → End → ℕ → End → Type 0
ReceiverCompleted s me n me' = me' ≡ as_receiver (completed_to (receiver_of me.0) n)

abbrev pub HalterHalted : TableStep ℕ → End → ℕ → End → Type 0
HalterHalted s me n me' = me' ≡ as_halter (halter_halted (halter_of me.0))
