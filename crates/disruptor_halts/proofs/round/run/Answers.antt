use denote.Param.Send.{given_send, sendable}
use Rattle.disruptor_halts.proofs.round.run.Goals as goal

ruleset bounds = (sendable, given_send)

-- what the closure asks of the types of its threads is so by their bounds
pub scoped-requires : goal.scoped-requires
scoped-requires g c =
    let inlets = c.type_bounds.send-I in
    let outlets = c.type_bounds.send-O in
    let halters = c.type_bounds.send-H in
    record {
      at = λ a. (search bounds depth 60, (search bounds depth 60, (search bounds depth 60, (search bounds depth 60, search bounds depth 60, search bounds depth 60, search bounds depth 60))));
    }
