use Rattle.std.proofs.lemmas.Result.{err_from_is_err_and}
use Rattle.dr_graph.proofs.Answering.{cause_of_err, none_of_ok}
use Rattle.dr_drive.proofs.Declaring.{edge_does, edge_refused}
use Rattle.dr_drive.proofs.setup.handler_records.Declaring.edge.Goals as goal

pub returns-in_err-edge : goal.returns-in_err-edge
returns-in_err-edge c = λ first second up down.
    let p = err_from_is_err_and c.from_residual.result c.from_residual.ensures.1 in
    rw (p.1, p.2) (edge_refused c.args.self.builder c.args.self.group c.args.up.now c.args.down.now first second c.in_err-edge.field-0.0 c.requires up down (cause_of_err _ _ _ _ c.in_err-edge.ensures.answer))

pub returns : goal.returns
returns c = λ first second up down.
    edge_does c.args.self.builder c.edge.new.self c.args.self.group c.args.up.now c.args.down.now first second c.requires up down (none_of_ok _ _ _ c.in_ok-edge.ensures.answer) c.in_ok-edge.ensures.connected
