use Rattle.std.proofs.lemmas.Result.{err_from_is_err_and}
use Rattle.dr_graph.specs.Meaning.Name.{given}
use Rattle.dr_graph.proofs.Answering.{cause_of_err, none_of_ok}
use Rattle.dr_drive.proofs.Declaring.{with_does, with_refused}
use Rattle.dr_drive.proofs.setup.handler_records.Declaring.with.Goals as goal

pub returns-in_err-group : goal.returns-in_err-group
returns-in_err-group c = λ fields shown.
    let p = err_from_is_err_and c.from_residual.result c.from_residual.ensures.1 in
    rw (p.1, p.2) (with_refused c.args.self.builder c.args.self.group (given c.args.names.now) fields c.in_err-group.field-0.0 shown (cause_of_err _ _ _ _ c.in_err-group.ensures.answer))

pub returns : goal.returns
returns c = λ fields shown.
    with_does c.args.self.builder c.handle_with.new.self c.args.self.group (given c.args.names.now) c.in_ok-group.group fields c.requires shown
    (none_of_ok _ _ _ c.in_ok-group.ensures.answer) c.in_ok-group.ensures.declared c.in_ok-group.ensures.group
