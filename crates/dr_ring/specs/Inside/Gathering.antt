-- What is known of the ends that come together.
use Rattle.std.specs.Prelude.{List, [], ◌∷◌, Option, None, Some}
use Rattle.atomic_table.specs.Seated.{TableId}
use Rattle.dr_runs.specs.Gathering.{AreOf, Known}
use Rattle.dr_ring.specs.declared.record.EndRecord.{EndRecord}
use Rattle.dr_ring.specs.declared.record.EndRecord.TheVariants.{Sends, Receives, Halts}
use Rattle.dr_ring.specs.declared.record.Step.{Step}
use Rattle.dr_ring.specs.Calls.Ends.{SenderEnd, ReceiverEnd, HalterEnd}

-- the receivers are at this ring
abbrev pub AreReceiversAt : TableId → List ReceiverEnd → Type 0
AreReceiversAt ring es = AreOf (λ (e : ReceiverEnd). e.ring) ring es

abbrev pub sender_known : SenderEnd → Known EndRecord Step
sender_known e = record { knows = Sends e.knows; past = e.past; stored = e.stored }

abbrev pub receiver_known : ReceiverEnd → Known EndRecord Step
receiver_known e = record { knows = Receives e.knows; past = e.past; stored = e.stored }

abbrev pub halter_known : HalterEnd → Known EndRecord Step
halter_known e = record { knows = Halts e.knows; past = e.past; stored = e.stored }

-- the halter's, if it comes too
abbrev pub halters_known : Option HalterEnd → List (Known EndRecord Step)
halters_known None = []
halters_known (Some t) = halter_known t ∷ []
