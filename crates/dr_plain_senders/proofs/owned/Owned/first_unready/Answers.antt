use Rattle.std.proofs.Common.{sym, ap, ◌∙◌, arith}
use Rattle.dr_plain_senders.specs.Inside.Owned.{Owned, is_ready}
use Rattle.dr_plain_senders.proofs.Marking.{part_of_stretch, ready_in}
use Rattle.dr_plain_senders.proofs.owned.Owned.first_unready.Goals as goal

pub returns-then-is_part : goal.returns-then-is_part
returns-then-is_part c =
    let order = c.requires.0 in
    let within = part_of_stretch c.self.inside.shown c.self.inside.filled c.args.from c.args.upto (sym c.is_part.ensures ∙ c.if-is_part.true) in
    let low = within.0 in let high = within.1 in record {
      low = order;
      high = omega arith;
      below = λ s from lt. ap (λ (o : Owned). is_ready o s) (sym c.self.view_is)
          ∙ ready_in c.self.inside.marks.items c.self.inside.size c.self.inside.shown c.self.inside.filled c.self.inside.end c.self.invariant s (omega arith)
          (omega arith);
      here = λ less. absurd (omega arith);
    }
