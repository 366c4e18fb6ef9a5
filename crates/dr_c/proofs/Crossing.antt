-- Each end that a handle may have goes to another thread: shown kind by kind, so that the search for their `Send` ends there.
use denote.Param.Send.{IsSend, IsSync, sendable, given_send}
use Rattle.std.proofs.Crossing as std
use Rattle.atomic_table.proofs.shared.Seat.TheSendSync.{the_send as seat_send}
use Rattle.atomic_table.proofs.shared.Shared.TheSendSync.{the_send as shared_send, the_sync as shared_sync}
use Rattle.atomic_table.proofs.send_lease.SendLease.TheSendSync.{the_send as lease_send, the_sync as lease_sync}
use Rattle.dr_seq.specs.contracts.event.Event as Event
use Rattle.dr_ring.specs.contracts.sender.Sender as WordSender
use Rattle.dr_ring.specs.contracts.receiver.Receiver as WordReceiver
use Rattle.dr_ring.specs.contracts.laws.halter.Halter as WordHalter
use Rattle.dr_plain_senders.proofs.Crossing as several
use Rattle.dr_plain.proofs.Crossing as plain
use Rattle.dr_c.specs.contracts.bytes.Bytes as Bytes
use Rattle.dr_c.specs.contracts.writer.Writer as Writer
use Rattle.dr_c.specs.contracts.one_of_several.OneOfSeveral as OneOfSeveral
use Rattle.dr_c.specs.contracts.end.End as End

-- over atomic words
ruleset words = (sendable, std.crosses, seat_send, shared_send, shared_sync, lease_send, lease_sync)

sender_send : IsSend WordSender.the_row
sender_send = search words depth 60 fits 20000

receiver_send : IsSend WordReceiver.the_row
receiver_send = search words depth 60 fits 20000

halter_send : IsSend WordHalter.the_row
halter_send = search words depth 60 fits 20000

-- over plain memory, as their events do
ruleset values = (sendable, std.crosses)

event_send : IsSend Event.the_row
event_send = search values depth 30

event_sync : IsSync Event.the_row
event_sync = search values depth 30

bytes_send : IsSend Bytes.the_row
bytes_send = search values depth 30

bytes_sync : IsSync Bytes.the_row
bytes_sync = search values depth 30

ruleset ends = (
  sendable,
  sender_send,
  receiver_send,
  halter_send,
  event_send,
  event_sync,
  bytes_send,
  bytes_sync,
  several.sender_send,
  several.receiver_send,
  several.halter_send,
  plain.sender_send,
  plain.receiver_send,
  plain.halter_send,
)

writer_send : IsSend Writer.the_row
writer_send = search ends depth 60 fits 20000

one_of_several_send : IsSend OneOfSeveral.the_row
one_of_several_send = search ends depth 60 fits 20000

ruleset handed = (ends, writer_send, one_of_several_send)

pub end_send : IsSend End.the_row
end_send = search handed depth 60 fits 20000

-- for a call that is given one
pub ruleset crosses = (sendable, given_send, end_send)
