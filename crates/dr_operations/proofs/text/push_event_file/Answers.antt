use Rattle.dr_operations.proofs.Back.{file_back}
use Rattle.dr_operations.proofs.text.push_event_file.Goals as goal

pub returns-clause-back : goal.returns-clause-back
returns-clause-back c = λ are. file_back c.args.events.now are

pub returns-in_err-push_operation-clause-back : goal.returns-in_err-push_operation-clause-back
returns-in_err-push_operation-clause-back c = λ are. file_back c.args.events.now are

pub returns-in_err-push_str-clause-back : goal.returns-in_err-push_str-clause-back
returns-in_err-push_str-clause-back c = λ are. file_back c.args.events.now are
