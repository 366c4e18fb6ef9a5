use Rattle.std.proofs.Common.{length, sym, ap, ◌∙◌}
use Rattle.std.proofs.lemmas.Bool.{eqb-true}
use Rattle.dr_plain.proofs.Offers.{round_alone}
use Rattle.dr_plain.proofs.laws.receiver.ReceiverStation.look_round.Goals as goal

pub returns-clause-answer : goal.returns-clause-answer
returns-clause-answer g c =
    let t = c.look_at_cursor-cursor.ensures.step in
    round_alone _ _ c.args.room c.look_at_cursor-cursor.result c.args.self.now.hand _ t.0
    (ap length (sym c.upstreams.ensures) ∙ eqb-true _ _ (sym c.is_empty.ensures ∙ c.if-not-is_empty.false)) c.look_at_cursor-cursor.ensures.finds t.1 t.2.1 t.2.2
