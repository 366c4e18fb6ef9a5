use Rattle.std.proofs.Common.{rules, sym, ◌≡◌, ◌∙◌, length}
use Rattle.dr_runs.specs.OneSender.Words.{cursor_word}
use Rattle.dr_plain.specs.Meaning.Records.{taken_at}
use Rattle.dr_plain.proofs.Allowed.{receiver_looks_at_cursor}
use Rattle.dr_plain.proofs.laws.receiver.ReceiverStation.look_at_cursor.Goals as goal

pub load-requires : goal.load-requires
load-requires g c = (search rules, search rules, receiver_looks_at_cursor _ _ _ c.args.room _ c.requires.named c.self.invariant.end)

pub returns-clause-step : goal.returns-clause-step
returns-clause-step g c =
    let t = c.load.ensures.2.0 in
    let count : length t.0 ≡ taken_at c.args.self.now.knows cursor_word c.load.result c.args.room =
    t.1 ∙ (λ i. taken_at ((c.self.view_is i).knows) cursor_word c.load.result (sym c.requires.named i)) in
    (t.0, count, search rules)
