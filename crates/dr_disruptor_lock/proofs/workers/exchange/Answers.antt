use denote.Param.Send.{given_send, given_sync, sendable}
use Rattle.dr_disruptor_lock.proofs.workers.exchange.Goals as goal

ruleset bounds = (sendable, given_send, given_sync)

-- what the closure asks of the types of its threads is so by their bounds
pub scoped-requires : goal.scoped-requires
scoped-requires g c =
    let ledger = c.type_bounds.send-L in
    let shared = c.type_bounds.sync-L in
    let workers = c.type_bounds.sync-R in
    let handlers = c.type_bounds.send-H in
    record {
      at = λ a. (search bounds depth 60, (search bounds depth 60, (search bounds depth 60, (c.requires.begins, (search bounds depth 60, search bounds depth 60, search bounds depth 60, search bounds depth 60)))));
    }
