use Rattle.std.proofs.Common.{◌≡◌, length, ap, ◌∙◌, arith}
use Rattle.dr_seq.proofs.Stamped.{length-stamped}
use Rattle.dr_core.proofs.availability.show.Goals as goal

pub front-requires-clause-round : goal.front-requires-clause-round
front-requires-clause-round c =
    let len : length c.mark_all.new.rounds ≡ length c.args.published.now = ap length c.mark_all.ensures ∙ length-stamped _ c.args.published.now _ _ in
    omega arith
