use denote.Param.Send.{IsSync, sendable}
use Rattle.std.proofs.Crossing as std
use Rattle.dr_lock.proofs.SharedCrossing.{end_send, event_send, of_param, shared_sync}
use Rattle.example_lock.proofs.fn.exchange.scope.Goals as goal

-- a worker's closure may go to another thread: it has a reference to the shared history, and an end
ruleset crosses = (sendable, end_send, event_send, shared_sync)

ruleset gives = (sendable, std.crosses, end_send)

pub spawn-handler-requires-send-F : goal.spawn-handler-requires-send-F
spawn-handler-requires-send-F g c κs within =
    let ledger : IsSync g.row.L = of_param _ g.row.L c.requires in
    search crosses depth 40 fits 20000

pub spawn-first-requires-send-F : goal.spawn-first-requires-send-F
spawn-first-requires-send-F g c κs within =
    let ledger : IsSync g.row.L = of_param _ g.row.L c.requires in
    search crosses depth 40 fits 20000

pub spawn-second-requires-send-F : goal.spawn-second-requires-send-F
spawn-second-requires-send-F g c κs within =
    let ledger : IsSync g.row.L = of_param _ g.row.L c.requires in
    search crosses depth 40 fits 20000

-- what it gives back may be sent: its end

pub spawn-handler-requires-send-T : goal.spawn-handler-requires-send-T
spawn-handler-requires-send-T g c κs within = search gives depth 60 fits 20000

pub spawn-first-requires-send-T : goal.spawn-first-requires-send-T
spawn-first-requires-send-T g c κs within = search gives depth 60 fits 20000

pub spawn-second-requires-send-T : goal.spawn-second-requires-send-T
spawn-second-requires-send-T g c κs within = search gives depth 60 fits 20000
