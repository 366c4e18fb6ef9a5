use Rattle.std.proofs.Common.{ap, Err}
use Rattle.std.proofs.lemmas.Result.{err_from_is_err_and}
use Rattle.dr_drive.specs.Calls.Shows.{ring_setup}
use Rattle.dr_drive.proofs.Starting.{same_fault, start_opens, start_refused, unlike}
use Rattle.dr_drive.proofs.setup.start.Goals as goal

pub returns-in_err-graph : goal.returns-in_err-graph
returns-in_err-graph c =
    let d = c.args.declaring.builder in
    let f = c.in_err-graph.field-0.0 in
    let told = c.in_err-graph.ensures in
    let p = err_from_is_err_and c.from_residual.result c.from_residual.ensures.1 in
    rw (p.1, p.2) (start_refused c.args.ring d c.args.declaring.group f (c.placed_graph.ensures d) told.declaration
    (λ e. told.no_handlers.0 (ap Err e)) (λ empty. same_fault f _ (told.no_handlers.1 empty)) (λ e. told.cycle (ap Err e)) told.refused)

pub returns : goal.returns
returns c =
    let d = c.args.declaring.builder in
    let graph = c.in_ok-graph.graph in
    let told = c.in_ok-graph.ensures in
    record {
      names = graph.names;
      setup = ring_setup c.args.ring graph;
      is = start_opens c.args.ring d c.args.declaring.group graph (c.placed_graph.ensures d) (λ empty. unlike graph (told.no_handlers.1 empty)) told.built;
      shows = c.in_ok-exchange.ensures;
    }
