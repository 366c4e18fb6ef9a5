use Rattle.std.proofs.lemmas.Result.{err_from_is_err_and}
use Rattle.dr_graph.specs.Meaning.Name.{given}
use Rattle.dr_graph.proofs.Answering.{cause_of_err, none_of_ok}
use Rattle.dr_drive.proofs.Declaring.{then_does, then_refused}
use Rattle.dr_drive.proofs.setup.handler_records.Declaring.then.Goals as goal

pub returns-in_err-followers : goal.returns-in_err-followers
returns-in_err-followers c = λ fields shown.
    let p = err_from_is_err_and c.from_residual.result c.from_residual.ensures.1 in
    rw (p.1, p.2, c.in-Some.is) (then_refused c.args.self.builder c.in-Some.group (given c.args.names.now) fields c.in_err-followers.field-0.0 shown (cause_of_err _ _ _ _ c.in_err-followers.ensures.answer))

pub returns : goal.returns
returns c = λ fields shown.
    rw c.in-Some.is (then_does c.args.self.builder c.then.new.self c.in-Some.group (given c.args.names.now) c.in_ok-followers.followers fields c.requires shown
    (none_of_ok _ _ _ c.in_ok-followers.ensures.answer) c.in_ok-followers.ensures.declared c.in_ok-followers.ensures.group)
