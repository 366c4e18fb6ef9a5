use Rattle.std.proofs.Common.{ap, sym, take, string_bytes, ◌∙◌}
use Rattle.csv.specs.Records.{fields_of}
use Rattle.dr_drive.specs.Calls.Shows.{batch_of, core_of}
use Rattle.dr_drive.specs.Inside.States.{with_state}
use Rattle.dr_drive.proofs.Telling.{obeyed_row}
use Rattle.dr_drive.proofs.exchange.Exchange.obey.Goals as goal

pub returns-clause-shown : goal.returns-clause-shown
returns-clause-shown c = λ names setup m shown.
    let states = c.args.states in
    let now = c.execute-reply.new.self in
    let events = c.handed.ensures ∙ ap (λ n. take n (batch_of now)) c.count.ensures in
    let line = c.in_ok-push_state_if.ensures ∙ ap (λ l. with_state states l (core_of now)) c.in_ok-put_line.ensures in
    obeyed_row states c.args.self.now now names setup m (fields_of c.args.row.now) c.in-Some.command c.execute-reply.result c.handed.result.now
    (string_bytes c.push_state_if.new.line) shown (sym c.command.ensures ∙ c.in-Some.is) (c.execute-reply.ensures.shown names setup m shown) events line
