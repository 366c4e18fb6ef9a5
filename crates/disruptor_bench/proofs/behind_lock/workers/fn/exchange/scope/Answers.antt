use denote.Param.Send.{IsSync}
use Rattle.dr_lock.proofs.SharedCrossing.{of_param}
use Rattle.disruptor_bench.proofs.Crossing.{crosses, gives}
use Rattle.disruptor_bench.proofs.behind_lock.workers.fn.exchange.scope.Goals as goal

-- a worker's closure may go to another thread: it has a reference to what all share, its number, and its end
pub spawn-requires-send-F : goal.spawn-requires-send-F
spawn-requires-send-F g c κs within =
    let ledger : IsSync g.row.L = of_param _ g.row.L c.requires.shared in
    let workers : IsSync g.row.R = of_param _ g.row.R c.requires.workers in
    search crosses depth 40 fits 20000

-- what it gives back may be sent: its end, and what came of its work
pub spawn-requires-send-T : goal.spawn-requires-send-T
spawn-requires-send-T g c κs within = search gives depth 60 fits 20000
