-- What is known of the ends that come together.
use Rattle.std.specs.Prelude.{List}
use Rattle.atomic_table.specs.Seated.{TableId}
use Rattle.dr_runs.specs.Gathering.{AreOf, Known}
use Rattle.dr_plain_senders.specs.declared.record.EndRecord.{EndRecord}
use Rattle.dr_plain_senders.specs.declared.record.EndRecord.TheVariants.{Sends, Receives, Halts}
use Rattle.dr_plain_senders.specs.declared.record.Step.{Step}
use Rattle.dr_plain_senders.specs.Calls.Ends.{SenderEnd, ReceiverEnd, HalterEnd}

module _ {T : Type 0} where
  -- the senders are at this ring, and the receivers
  abbrev pub AreSendersAt : TableId → List (SenderEnd T) → Type 0
  AreSendersAt ring es = AreOf (λ (e : SenderEnd T). e.ring) ring es

  abbrev pub AreReceiversAt : TableId → List (ReceiverEnd T) → Type 0
  AreReceiversAt ring es = AreOf (λ (e : ReceiverEnd T). e.ring) ring es

  abbrev pub sender_known : SenderEnd T → Known (EndRecord T) (Step T)
  sender_known e = record { knows = Sends e.knows; past = e.past; stored = e.stored }

  abbrev pub receiver_known : ReceiverEnd T → Known (EndRecord T) (Step T)
  receiver_known e = record { knows = Receives e.knows; past = e.past; stored = e.stored }

  abbrev pub halter_known : HalterEnd T → Known (EndRecord T) (Step T)
  halter_known e = record { knows = Halts e.knows; past = e.past; stored = e.stored }
