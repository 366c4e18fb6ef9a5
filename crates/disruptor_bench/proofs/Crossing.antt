-- What the threads of a round behind the lock share may be shared, and their ends may be sent.
use denote.RattleType.{RattleType}
use denote.Ref.{NamedLft}
use denote.Param.Send.{IsSend, IsSync, sendable}
use Rattle.std.proofs.Crossing as std
use Rattle.std.specs.declared.sync.ledger.Ledger.{Ghosts}
use Rattle.dr_lock.specs.declared.exchange.Exchange.{Ghosts as Begun}
use Rattle.dr_seq.specs.contracts.event.Event as Event
use Rattle.dr_lock.proofs.SharedCrossing.{end_send, shared_sync}
use Rattle.disruptor_bench.specs.contracts.behind_lock.workers.Around as Around

pub event_sync : IsSync Event.the_row
event_sync = search sendable depth 30

pub event_send : IsSend Event.the_row
event_send = search sendable depth 30

pub ruleset shares = (sendable, std.sync, event_sync, event_send, shared_sync)

pub around_sync : (a : NamedLft) (L R : RattleType) (b : Begun L.Denot Event.the_row.Denot) (g : Ghosts L.Denot) → IsSync L → IsSync R → IsSync (Around.the_row a L R b g)
around_sync a L R b g ledger workers = search shares depth 60 fits 20000

pub ruleset crosses = (sendable, end_send, around_sync)

-- what they give back
pub ruleset gives = (sendable, std.crosses, end_send)
