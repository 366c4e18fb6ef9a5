-- What an end of a ring is to its caller, and what one of its steps leaves of it.
use Rattle.std.specs.Prelude.{◌≡◌, ℕ, Option, List, [], ◌∷◌, ◌++◌}
use Rattle.atomic_table.specs.Seated.{TableId}
use Rattle.dr_cells.specs.declared.token.Token.{Token}
use Rattle.dr_meaning.specs.Calls.Ends.{Sent, Received}
use Rattle.dr_runs.specs.Runs.{IsBeginning}
use Rattle.dr_plain.specs.Meaning.Shape.{Shape}
use Rattle.dr_lent.specs.Events.{events_of}
use Rattle.dr_plain.specs.declared.record.Step.{Step}
use Rattle.dr_plain.specs.declared.record.SenderRecord.{SenderRecord}
use Rattle.dr_plain.specs.declared.record.ReceiverRecord.{ReceiverRecord}
use Rattle.dr_plain.specs.declared.record.HalterRecord.{HalterRecord}

-- an end: of which ring it is, what it knows, the slots that it has in hand,
-- the run as it was at its last step, and what it has stored since the ring's opening
pub record EndOf (T K : Type 0) : Type 0 where
  pub ring : TableId
  pub knows : K
  pub hand : List (ℕ × Token T)
  pub past : List (Step T)
  pub stored : List (Step T)

abbrev pub SenderStand : Type 0 → Type 0
SenderStand T = EndOf T (SenderRecord T)

abbrev pub ReceiverStand : Type 0 → Type 0
ReceiverStand T = EndOf T (ReceiverRecord T)

-- the halter is to its caller what it is at its station
abbrev pub HalterEnd : Type 0 → Type 0
HalterEnd T = EndOf T (HalterRecord T)

-- the sender as its caller sees it: with what was written of each sequence that is claimed and not published, and what lies in each cell
pub record SenderEnd (T : Type 0) : Type 0 where
  pub ring : TableId
  pub knows : SenderRecord T
  pub writes : List (Option T)
  pub cells : List (Option T)
  pub past : List (Step T)
  pub stored : List (Step T)

-- a receiver as its caller sees it
pub record ReceiverEnd (T : Type 0) : Type 0 where
  pub ring : TableId
  pub knows : ReceiverRecord T
  pub past : List (Step T)
  pub stored : List (Step T)

-- which end it is: of which ring, made for what, and a receiver's number
abbrev pub SenderPlace : Type 0
SenderPlace = TableId × Shape

abbrev pub ReceiverPlace : Type 0
ReceiverPlace = TableId × Shape × ℕ

module _ {T : Type 0} where
  abbrev pub sender_place : SenderEnd T → SenderPlace
  sender_place e = (e.ring, e.knows.plan)

  abbrev pub receiver_place : ReceiverEnd T → ReceiverPlace
  receiver_place e = (e.ring, e.knows.plan, e.knows.number)

  -- what a sender sent
  abbrev pub sent_of : SenderEnd T → Sent T
  sent_of e = record { published = events_of e.knows.published; pending = e.writes }

  -- what a receiver received
  abbrev pub received_of : ReceiverRecord T → Received T
  received_of r = record { events = events_of r.received; completed = r.completed }

module _ {T K : Type 0} where
  -- an end has loaded words, knows this and has this in hand: all that it saw comes before, and it has stored nothing
  abbrev pub HasLoaded : EndOf T K → K → List (ℕ × Token T) → EndOf T K → Type 0
  HasLoaded e knows hand e' = (e'.ring ≡ e.ring) × (e'.knows ≡ knows) × (e'.hand ≡ hand) × IsBeginning e.past e'.past × (e'.stored ≡ e.stored)

  -- an end has stored a word, knows this and has this in hand
  abbrev pub HasStored : EndOf T K → Step T → K → List (ℕ × Token T) → EndOf T K → Type 0
  HasStored e step knows hand e' = (e'.ring ≡ e.ring) × (e'.knows ≡ knows) × (e'.hand ≡ hand) × IsBeginning e.past e'.past × (e'.stored ≡ e.stored ++ step ∷ [])
