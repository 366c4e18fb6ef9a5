-- What all ends share may be shared, and go to another thread, where the events may: shown part by part, so that the search for an end's `Send` ends there.
use denote.RattleType.{RattleType}
use denote.Exit.{Exit, unchanged, leaves, hidden, under}
use denote.Struct.Struct.{exits_of}
use denote.Struct.Owning.{shape, fields, to}
use denote.Param.Send.{IsSend, IsSync, Quiet, AllSend, owning_send, struct_send, sendable}
use Rattle.std.proofs.Crossing as std
use Rattle.atomic_table.proofs.shared.Seat.TheSendSync.{the_send as seat_send}
use Rattle.atomic_table.proofs.shared.Shared.TheSendSync.{the_send as shared_send, the_sync as shared_sync}
use Rattle.atomic_table.proofs.send_lease.SendLease.TheSendSync.{the_send as lease_send, the_sync as lease_sync}
use Rattle.dr_cells.proofs.token.Token.TheSendSync.{the_send as token_send, the_sync as token_sync}
use Rattle.dr_cells.proofs.cells.Cells.TheSendSync.{the_send as cells_send, the_sync as cells_sync}
use Rattle.dr_cells.proofs.deed.Deed.TheSendSync.{the_send as deed_send, the_sync as deed_sync}
use Rattle.dr_places.specs.declared.places.Belongs.{Ghosts}
use Rattle.dr_places.specs.contracts.places.Places as Places
use Rattle.dr_plain_senders.specs.contracts.plan.Plan as Plan
use Rattle.dr_plain_senders.specs.contracts.body.RingBody as RingBody
use Rattle.dr_plain_senders.specs.contracts.left.SenderLeft as SenderLeft
use Rattle.dr_plain_senders.specs.contracts.left.ReceiverLeft as ReceiverLeft
use Rattle.dr_plain_senders.specs.contracts.left.HalterLeft as HalterLeft
use Rattle.dr_plain_senders.specs.contracts.sender.Sender as Sender
use Rattle.dr_plain_senders.specs.contracts.receiver.Receiver as Receiver
use Rattle.dr_plain_senders.specs.contracts.laws.halter.Halter as Halter
use Rattle.dr_plain_senders.specs.contracts.sender.Sender.TheInside as sender
use Rattle.dr_plain_senders.specs.contracts.receiver.Receiver.TheInside as receiver
use Rattle.dr_plain_senders.specs.contracts.laws.halter.Halter.TheInside as halter

-- what ends leave
ruleset left = (sendable, std.crosses, seat_send, token_send, token_sync, cells_send, cells_sync, deed_send, deed_sync)

receiver_left_send : (T : RattleType) → IsSend T → IsSync T → IsSend (ReceiverLeft.the_row T)
receiver_left_send T s y = search left depth 60 fits 20000

sender_left_send : (T : RattleType) → IsSend T → IsSync T → IsSend (SenderLeft.the_row T)
sender_left_send T s y = search left depth 60 fits 20000

halter_left_send : (T : RattleType) → IsSend T → IsSync T → IsSend (HalterLeft.the_row T)
halter_left_send T s y = search left depth 60 fits 20000

-- tables, and what they are for
ruleset tables = (sendable, std.crosses, shared_send, shared_sync, lease_send, lease_sync)

places_sync : (L K : RattleType) (g : Ghosts L.Denot K.Denot) → IsSend L → IsSync (Places.the_row L K g)
places_sync L K g s = search tables depth 60 fits 20000

places_send : (L K : RattleType) (g : Ghosts L.Denot K.Denot) → IsSend L → IsSend (Places.the_row L K g)
places_send L K g s = search tables depth 60 fits 20000

plan_send : (T : RattleType) → IsSend T → IsSync T → IsSend (Plan.the_row T)
plan_send T s y = search left depth 60 fits 20000

plan_sync : (T : RattleType) → IsSend T → IsSync T → IsSync (Plan.the_row T)
plan_sync T s y = search left depth 60 fits 20000

ruleset bodies = (
  sendable,
  std.crosses,
  shared_send,
  shared_sync,
  lease_send,
  lease_sync,
  token_send,
  places_send,
  places_sync,
  sender_left_send,
  receiver_left_send,
  halter_left_send,
  plan_send,
  plan_sync,
)

pub body_send : (T : RattleType) → IsSend T → IsSync T → IsSend (RingBody.the_row T)
body_send T s y = search bodies depth 60 fits 20000

pub body_sync : (T : RattleType) → IsSend T → IsSync T → IsSync (RingBody.the_row T)
body_sync T s y = search bodies depth 60 fits 20000

-- so the ends may go to another thread
ruleset ends = (sendable, std.crosses, seat_send, token_send, token_sync, cells_send, cells_sync, deed_send, deed_sync, body_send, body_sync)

-- what a struct that owns nothing beside its fields leaves
quiet : {D X : Type 0} (to : D → X) (e : Exit X) → Quiet e → Quiet (hidden (under to e))
quiet to unchanged q = λ x w. tt
quiet to (leaves L l S s r₀) q = λ d. q (to d)

sender_parts_send : (T : RattleType) → IsSend T → IsSync T → IsSend (sender.the_row T)
sender_parts_send T s y =
    let O = sender.the_type T in
    let all : AllSend (fields O) =
    (search ends depth 60 fits 20000, (search ends depth 60 fits 20000, (search ends depth 60 fits 20000, (search ends depth 60 fits 20000, tt)))) in
    owning_send O all (λ d. tt) (λ k. quiet (to O) (exits_of k (fields O)) ((struct_send (shape O) all).leaving k))

ruleset senders = (sendable, sender_parts_send)

pub sender_send : (T : RattleType) → IsSend T → IsSync T → IsSend (Sender.the_row T)
sender_send T s y = search senders

receiver_parts_send : (T : RattleType) → IsSend T → IsSync T → IsSend (receiver.the_row T)
receiver_parts_send T s y =
    let O = receiver.the_type T in
    let all : AllSend (fields O) =
    (search ends depth 60 fits 20000, (search ends depth 60 fits 20000, (search ends depth 60 fits 20000, (search ends depth 60 fits 20000, tt)))) in
    owning_send O all (λ d. tt) (λ k. quiet (to O) (exits_of k (fields O)) ((struct_send (shape O) all).leaving k))

ruleset receivers = (sendable, receiver_parts_send)

pub receiver_send : (T : RattleType) → IsSend T → IsSync T → IsSend (Receiver.the_row T)
receiver_send T s y = search receivers

halter_parts_send : (T : RattleType) → IsSend T → IsSync T → IsSend (halter.the_row T)
halter_parts_send T s y =
    let O = halter.the_type T in
    let all : AllSend (fields O) =
    (search ends depth 60 fits 20000, (search ends depth 60 fits 20000, (search ends depth 60 fits 20000, (search ends depth 60 fits 20000, tt)))) in
    owning_send O all (λ d. tt) (λ k. quiet (to O) (exits_of k (fields O)) ((struct_send (shape O) all).leaving k))

ruleset halters = (sendable, halter_parts_send)

pub halter_send : (T : RattleType) → IsSend T → IsSync T → IsSend (Halter.the_row T)
halter_send T s y = search halters
