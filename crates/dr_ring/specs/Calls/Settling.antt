-- Which ends come together, which run came to them, and what is counted of them.
use Rattle.std.specs.Prelude.{◌≡◌, ℕ, List, length, map}
use mathlib.Core.Option.{some}
use lib.ListN.{get_elem?}
use Rattle.dr_ring.specs.declared.record.ReceiverRecord.{ReceiverRecord}
use Rattle.dr_runs.specs.declared.counts.HandlerCounts.{HandlerCounts}
use Rattle.dr_ring.specs.declared.record.Step.{Step}
use Rattle.dr_seq.specs.declared.event.Event.{Event}
use Rattle.dr_meaning.specs.Meaning.Transcript.{Transcript, LeadsTo}
use Rattle.dr_meaning.specs.Meaning.Laws.{Laws}
use Rattle.dr_runs.specs.Gathering.{HasPart}
use Rattle.dr_ring.specs.Meaning.Shape.{handlers_of, ring_setup}
use Rattle.dr_ring.specs.Meaning.Stores.{stores_of_sender, stores_of_receiver, stores_of_halter}
use Rattle.dr_ring.specs.Meaning.Rule.{World}
use Rattle.dr_ring.specs.Meaning.Moments.{new_world, picture_of, Runs}
use Rattle.dr_ring.specs.Calls.Ends.{SenderEnd, ReceiverEnd, HalterEnd}

-- these are the receivers of a sender's ring, in the graph's order
pub record AreReceiversOf (s : SenderEnd) (rs : List ReceiverEnd) : Type 0 where
  pub all : length rs ≡ handlers_of s.knows.plan
  pub each : (h : ℕ) (e : ReceiverEnd) → get_elem? rs h ≡ some e → (e.ring ≡ s.ring) × (e.knows.number ≡ h)

-- and with its halter they are all of its ends
pub record AreAllEnds (s : SenderEnd) (rs : List ReceiverEnd) (t : HalterEnd) : Type 0 where
  pub receivers : AreReceiversOf s rs
  pub halter : t.ring ≡ s.ring

-- One run of a ring came to what its sender and its receivers know, and in it each of them stored exactly what it did.
-- Its transcript leads the machine to the ring's picture, and has the five laws.
pub record AreOfOneRun (s : SenderEnd) (rs : List ReceiverEnd) : Type 0 where
  pub steps : List Step
  pub entries : Transcript Event
  pub world : World
  pub runs : Runs s.knows.plan steps entries (new_world s.knows.plan) world
  pub sender : world.sender ≡ s.knows
  pub receivers : world.receivers ≡ map (λ e. e.knows) rs
  pub sends : HasPart s.past s.stored (stores_of_sender steps) steps
  pub receives : (h : ℕ) (e : ReceiverEnd) → get_elem? rs h ≡ some e → HasPart e.past e.stored (stores_of_receiver h steps) steps
  pub leads : LeadsTo (ring_setup s.knows.plan) entries (picture_of s.knows.plan world)
  pub laws : Laws (ring_setup s.knows.plan) entries

-- and it came to what the halter knows, which in it stored exactly what it did
pub record HasRun (s : SenderEnd) (rs : List ReceiverEnd) (t : HalterEnd) : Type 0 where
  pub run : AreOfOneRun s rs
  pub halter : run.world.halter ≡ t.knows
  pub halts : HasPart t.past t.stored (stores_of_halter run.steps) run.steps

-- how many events a receiver took and completed
abbrev pub handler_counts : ReceiverRecord → HandlerCounts
handler_counts r = record { taken = length r.received; completed = r.completed }
