-- A seat at the lock may be sent: it has references to what all threads share, and an end.
use denote.RattleType.{RattleType}
use denote.Ref.{NamedLft}
use denote.Param.Send.{IsSend, IsSync, sendable}
use Rattle.std.proofs.Crossing as std
use Rattle.std.specs.declared.sync.ledger.Ledger.{Ghosts}
use Rattle.dr_lock.specs.declared.exchange.Exchange.{Ghosts as Begun}
use Rattle.dr_seq.specs.contracts.event.Event as Event
use Rattle.dr_lock.proofs.SharedCrossing.{end_send, event_send, shared_sync}
use Rattle.disruptor_halts.specs.contracts.by_lock.seat.Seat as Seat

pub ruleset sits = (sendable, std.crosses, end_send, shared_sync, event_send)

pub seat_send : (a : NamedLft) (L R : RattleType) (b : Begun L.Denot Event.the_row.Denot) (g : Ghosts L.Denot) → IsSync L → IsSync R → IsSend (Seat.the_row a L R b g)
seat_send a L R b g ledger workers = search sits depth 60 fits 20000
