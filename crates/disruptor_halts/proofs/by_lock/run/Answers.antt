use denote.Param.Send.{IsSync, sendable}
use Rattle.dr_lock.proofs.SharedCrossing.{of_param}
use Rattle.disruptor_halts.proofs.Crossing.{seat_send}
use Rattle.disruptor_halts.proofs.by_lock.run.Goals as goal

ruleset seats = (sendable, seat_send)

-- the seats may go to other threads
pub play-requires-send-I : goal.play-requires-send-I
play-requires-send-I g c κs within =
    let ledger : IsSync g.row.L = of_param _ g.row.L c.type_bounds.sync-L in
    let workers : IsSync g.row.R = of_param _ g.row.R c.type_bounds.sync-R in
    search seats depth 40 fits 20000

pub play-requires-send-O : goal.play-requires-send-O
play-requires-send-O g c κs within =
    let ledger : IsSync g.row.L = of_param _ g.row.L c.type_bounds.sync-L in
    let workers : IsSync g.row.R = of_param _ g.row.R c.type_bounds.sync-R in
    search seats depth 40 fits 20000

pub play-requires-send-H : goal.play-requires-send-H
play-requires-send-H g c κs within =
    let ledger : IsSync g.row.L = of_param _ g.row.L c.type_bounds.sync-L in
    let workers : IsSync g.row.R = of_param _ g.row.R c.type_bounds.sync-R in
    search seats depth 40 fits 20000
