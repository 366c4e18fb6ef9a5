-- A share of a ledger may be shared, since it names no thread's key.
use Prim.Native.Nat.{ℕ}
use denote.RattleType.{RattleType}
use Rattle.std.proofs.Crossing as std
use Rattle.std.proofs.MapsCrossing as maps
use denote.Param.Send.{IsSend, IsSync, part_keyless, param_send, recorded_sync, struct_sync, sendable}
use Rattle.std.specs.declared.sync.ledger.Ledger.{Ghosts}
use Rattle.dr_lock.specs.declared.exchange.Exchange.{Ghosts as Begun}
use Rattle.std.specs.contracts.sync.ledger.Share as Share
use Rattle.std.proofs.sync.ledger.Share.TheSendSync.{the_send}
use Rattle.std.specs.contracts.sync.ledger.Book as Book
use Rattle.std.proofs.sync.ledger.Book.TheSendSync.{the_send as the_book_send}
use Rattle.dr_lock.specs.contracts.shared.Rest as Rest
use Rattle.dr_lock.specs.contracts.shared.Shared as Shared
use Rattle.dr_lock.specs.contracts.shared.Shared.TheInside as Inside
use denote.Param.{param}
use denote.Struct.Declared.{shape}
use Rattle.dr_lock.specs.contracts.shared.Whole as Whole
use Rattle.dr_lock.specs.contracts.end.Locked as Locked
use Rattle.dr_lock.specs.contracts.recorded.Recorded as Recorded
use Rattle.dr_core.specs.contracts.engine.Core as Core
use Rattle.dr_meaning.specs.contracts.command.Command as Command
use Rattle.dr_meaning.specs.contracts.command.Reply as Reply
use Rattle.dr_seq.specs.contracts.event.Event as Event
use Rattle.dr_lock.specs.contracts.entry.Entry as Entry
use Rattle.std.specs.contracts.sync.Mutex as Mutex
use Rattle.std.proofs.sync.Mutex.TheSendSync.{the_sync as the_mutex_sync}
use Rattle.dr_lock.specs.contracts.end.End as End

-- what is required of a closure's type parameter is so of the type
pub of_param : (i : ℕ) (R : RattleType) → IsSync (param i R) → IsSync R
of_param i R s = record { shared = s.shared }

pub share_sync : (L : RattleType) (g : Ghosts L.Denot) → IsSync (Share.the_row L g)
share_sync L g = record { shared = λ d b o κ q. part_keyless (Share.the_row L g) (the_send L g) q d b o }

pub rest_sync : (L : RattleType) (g : Ghosts L.Denot) → IsSync (Rest.the_row L g)
rest_sync L g = let s : IsSync (Share.the_row L g) = share_sync L g in search sendable depth 20

pub ruleset passes = (sendable, std.crosses, maps.crosses)

pub end_send : (E L : RattleType) (g : Ghosts L.Denot) → IsSend (End.the_row E L g)
end_send E L g = let share : IsSend (Share.the_row L g) = the_send L g in search passes depth 40

pub share_send : (L : RattleType) (g : Ghosts L.Denot) → IsSend (Share.the_row L g)
share_send L g = the_send L g

pub book_send : (L : RattleType) (g : Ghosts L.Denot) → IsSend (Book.the_row L g)
book_send L g = the_book_send L g

pub event_send : IsSend Event.the_row
event_send = search passes depth 30

pub core_send : (E : RattleType) → IsSend E → IsSend (Core.the_row E)
core_send E s = search passes depth 60 fits 20000

pub command_send : (E : RattleType) → IsSend E → IsSend (Command.the_row E)
command_send E s = search passes depth 40

pub reply_send : IsSend Reply.the_row
reply_send = search sendable depth 120 fits 50000

pub entry_send : (E : RattleType) → IsSend E → IsSend (Entry.the_row E)
entry_send E s = let command : IsSend (Command.the_row E) = command_send E s in let reply : IsSend Reply.the_row = reply_send in search passes depth 60 fits 20000

pub recorded_send : (E : RattleType) → IsSend E → IsSend (Recorded.the_row E)
recorded_send E s = let core : IsSend (Core.the_row E) = core_send E s in let entry : IsSend (Entry.the_row E) = entry_send E s in search passes depth 60 fits 20000

pub locked_send : (E L : RattleType) (b : Begun L.Denot E.Denot) (g : Ghosts L.Denot) → IsSend E → IsSend (Locked.the_row E L b g)
locked_send E L b g s = let book : IsSend (Book.the_row L g) = book_send L g in let recorded : IsSend (Recorded.the_row E) = recorded_send E s in search passes depth 30

pub mutex_sync : (E L : RattleType) (b : Begun L.Denot E.Denot) (g : Ghosts L.Denot) → IsSend E → IsSync (Mutex.the_row (Locked.the_row E L b g))
mutex_sync E L b g s = the_mutex_sync (Locked.the_row E L b g) (locked_send E L b g s)

pub whole_sync : (L : RattleType) (g : Ghosts L.Denot) → IsSync L → IsSync (Whole.the_row L g)
whole_sync L g s = search passes depth 30

pub ruleset shares = (sendable, the_mutex_sync)

pub mutex_field : (E L : RattleType) (b : Begun L.Denot E.Denot) (g : Ghosts L.Denot) → IsSend E → IsSync (Mutex.the_row (param 0 (Locked.the_row E L b g)))
mutex_field E L b g s = the_mutex_sync (param 0 (Locked.the_row E L b g)) (param_send 0 (Locked.the_row E L b g) (locked_send E L b g s))

pub rest_field : (L : RattleType) (g : Ghosts L.Denot) → IsSync (Rest.the_field L g).row
rest_field L g = let s : IsSync (Share.the_row L g) = share_sync L g in search sendable depth 20

pub shared_inside : (E L : RattleType) (b : Begun L.Denot E.Denot) (g : Ghosts L.Denot) → IsSend E → IsSync L → IsSync (Inside.the_row E L b g)
shared_inside E L b g e s =
    let rest : IsSync (Rest.the_field L g).row = rest_field L g in
    let mutex : IsSync (Mutex.the_row (param 0 (Locked.the_row E L b g))) = mutex_field E L b g e in
    let locked : IsSend (Locked.the_row E L b g) = locked_send E L b g e in
    let whole : IsSync (Whole.the_row L g) = whole_sync L g s in
    recorded_sync (Inside.the_field E L b g).row _ _ (Inside.the_type E L b g).to_one (struct_sync (shape (Inside.the_type E L b g)) (search shares depth 40, (search sendable depth 40, (search sendable depth 40, (search sendable depth 40, (search sendable depth 40, tt))))))

pub shared_sync : (E L : RattleType) (b : Begun L.Denot E.Denot) (g : Ghosts L.Denot) → IsSend E → IsSync L → IsSync (Shared.the_row E L b g)
shared_sync E L b g e s = let inside : IsSync (Inside.the_row E L b g) = shared_inside E L b g e s in search sendable depth 60
