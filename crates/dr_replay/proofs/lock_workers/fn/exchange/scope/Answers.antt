use denote.Param.Send.{IsSync}
use Rattle.dr_lock.proofs.SharedCrossing.{of_param}
use Rattle.dr_replay.proofs.Crossing.{crosses, gives}
use Rattle.dr_replay.proofs.lock_workers.fn.exchange.scope.Goals as goal

-- a worker's closure may go to another thread: it has a reference to what all share, and an end

pub spawn_with-journal-requires-send-F : goal.spawn_with-journal-requires-send-F
spawn_with-journal-requires-send-F g c κs within =
    let ledger : IsSync g.row.L = of_param _ g.row.L c.requires.shared in
    let workers : IsSync g.row.R = of_param _ g.row.R c.requires.workers in
    let gates : IsSync g.row.G = of_param _ g.row.G c.requires.gates in
    search crosses depth 40 fits 20000

pub spawn_with-replica-requires-send-F : goal.spawn_with-replica-requires-send-F
spawn_with-replica-requires-send-F g c κs within =
    let ledger : IsSync g.row.L = of_param _ g.row.L c.requires.shared in
    let workers : IsSync g.row.R = of_param _ g.row.R c.requires.workers in
    let gates : IsSync g.row.G = of_param _ g.row.G c.requires.gates in
    search crosses depth 40 fits 20000

pub spawn_with-business-requires-send-F : goal.spawn_with-business-requires-send-F
spawn_with-business-requires-send-F g c κs within =
    let ledger : IsSync g.row.L = of_param _ g.row.L c.requires.shared in
    let workers : IsSync g.row.R = of_param _ g.row.R c.requires.workers in
    let gates : IsSync g.row.G = of_param _ g.row.G c.requires.gates in
    search crosses depth 40 fits 20000

-- what it gives back may be sent: its end, and what came of its work

pub spawn_with-journal-requires-send-T : goal.spawn_with-journal-requires-send-T
spawn_with-journal-requires-send-T g c κs within = search gives depth 60 fits 20000

pub spawn_with-replica-requires-send-T : goal.spawn_with-replica-requires-send-T
spawn_with-replica-requires-send-T g c κs within = search gives depth 60 fits 20000

pub spawn_with-business-requires-send-T : goal.spawn_with-business-requires-send-T
spawn_with-business-requires-send-T g c κs within = search gives depth 60 fits 20000
