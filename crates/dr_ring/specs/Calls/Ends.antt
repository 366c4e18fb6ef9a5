-- What an end of a ring is to its caller, and what one of its steps leaves of it.
use Rattle.dr_seq.specs.declared.event.Event.{Event}
use Rattle.std.specs.Prelude.{◌≡◌, ℕ, List, [], ◌∷◌, ◌++◌}
use Rattle.atomic_table.specs.Seated.{TableId}
use Rattle.dr_ring.specs.Meaning.Shape.{Shape}
use Rattle.dr_ring.specs.declared.record.Step.{Step}
use Rattle.dr_ring.specs.declared.record.SenderRecord.{SenderRecord}
use Rattle.dr_ring.specs.declared.record.ReceiverRecord.{ReceiverRecord}
use Rattle.dr_ring.specs.declared.record.HalterRecord.{HalterRecord}
use Rattle.dr_runs.specs.Runs.{IsBeginning}
use Rattle.dr_meaning.specs.Calls.Ends.{Received}

-- an end: of which ring it is, what it knows, the run as it was at its last step, and what it has stored since the ring's opening
pub record EndOf (K : Type 0) : Type 0 where
  pub ring : TableId
  pub knows : K
  pub past : List Step
  pub stored : List Step

abbrev pub SenderEnd : Type 0
SenderEnd = EndOf SenderRecord

abbrev pub ReceiverEnd : Type 0
ReceiverEnd = EndOf ReceiverRecord

abbrev pub HalterEnd : Type 0
HalterEnd = EndOf HalterRecord

-- an end has loaded words, and knows this: all that it saw comes before, and it has stored nothing
abbrev pub HasLoaded : {K : Type 0} → EndOf K → K → EndOf K → Type 0
HasLoaded e knows e' = (e'.ring ≡ e.ring) × (e'.knows ≡ knows) × IsBeginning e.past e'.past × (e'.stored ≡ e.stored)

-- an end has stored a word, and knows this
abbrev pub HasStored : {K : Type 0} → EndOf K → Step → K → EndOf K → Type 0
HasStored e step knows e' = (e'.ring ≡ e.ring) × (e'.knows ≡ knows) × IsBeginning e.past e'.past × (e'.stored ≡ e.stored ++ step ∷ [])

abbrev pub received_of : ReceiverRecord → Received Event
received_of r = record { events = r.received; completed = r.completed }

-- which end it is: of which ring, made for what, and a receiver's number
abbrev pub SenderPlace : Type 0
SenderPlace = TableId × Shape

abbrev pub sender_place : SenderEnd → SenderPlace
sender_place e = (e.ring, e.knows.plan)

abbrev pub ReceiverPlace : Type 0
ReceiverPlace = TableId × Shape × ℕ

abbrev pub receiver_place : ReceiverEnd → ReceiverPlace
receiver_place e = (e.ring, e.knows.plan, e.knows.number)
