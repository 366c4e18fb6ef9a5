-- Which ends come together, which run came to them, and what is counted of them.
use Rattle.std.specs.Prelude.{◌≡◌, ℕ, List, length, map}
use mathlib.Core.Option.{some}
use lib.ListN.{get_elem?}
use Rattle.dr_meaning.specs.Meaning.Transcript.{Transcript, LeadsTo}
use Rattle.dr_meaning.specs.Meaning.Laws.{Laws}
use Rattle.dr_runs.specs.Gathering.{HasPart}
use Rattle.dr_runs.specs.declared.counts.HandlerCounts.{HandlerCounts}
use Rattle.dr_plain.specs.Meaning.Shape.{handlers_of, ring_setup}
use Rattle.dr_plain.specs.Meaning.Stores.{stores_of_sender, stores_of_receiver, stores_of_halter}
use Rattle.dr_plain.specs.Meaning.Rule.{World}
use Rattle.dr_plain.specs.Meaning.Moments.{new_world, picture_of, Runs}
use Rattle.dr_plain.specs.declared.record.ReceiverRecord.{ReceiverRecord}
use Rattle.dr_plain.specs.declared.record.Step.{Step}
use Rattle.dr_plain.specs.Calls.Ends.{SenderEnd, ReceiverEnd, HalterEnd}

module _ {T : Type 0} where
  -- these are the receivers of a sender's ring, in the graph's order
  pub record AreReceiversOf (s : SenderEnd T) (rs : List (ReceiverEnd T)) : Type 0 where
    pub all : length rs ≡ handlers_of s.knows.plan
    pub each : (h : ℕ) (e : ReceiverEnd T) → get_elem? rs h ≡ some e → (e.ring ≡ s.ring) × (e.knows.number ≡ h)

  -- and with its halter they are all of its ends
  pub record AreAllEnds (s : SenderEnd T) (rs : List (ReceiverEnd T)) (t : HalterEnd T) : Type 0 where
    pub receivers : AreReceiversOf s rs
    pub halter : t.ring ≡ s.ring

  -- The run of a ring, which came to what its ends know, and in which each of them stored exactly what it did.
  -- Its transcript leads the machine to the ring's picture, and has the five laws.
  pub record HasRun (s : SenderEnd T) (rs : List (ReceiverEnd T)) (t : HalterEnd T) : Type 0 where
    pub steps : List (Step T)
    pub entries : Transcript T
    pub world : World T
    pub runs : Runs s.knows.plan steps entries (new_world s.knows.plan) world
    pub sender : world.sender ≡ s.knows
    pub receivers : world.receivers ≡ map (λ (e : ReceiverEnd T). e.knows) rs
    pub halter : world.halter ≡ t.knows
    pub sends : HasPart s.past s.stored (stores_of_sender steps) steps
    pub receives : (h : ℕ) (e : ReceiverEnd T) → get_elem? rs h ≡ some e → HasPart e.past e.stored (stores_of_receiver h steps) steps
    pub halts : HasPart t.past t.stored (stores_of_halter steps) steps
    pub leads : LeadsTo (ring_setup s.knows.plan) entries (picture_of s.knows.plan world)
    pub laws : Laws (ring_setup s.knows.plan) entries

  -- how many events a receiver took and completed
  abbrev pub handler_counts : ReceiverRecord T → HandlerCounts
  handler_counts r = record { taken = length r.received; completed = r.completed }
