use Rattle.std.proofs.Common.{rules, arith, sym, subst, ap, ◌<◌}
use Rattle.dr_plain.specs.Meaning.Shape.{Shape}
use Rattle.dr_plain.specs.Meaning.Words.{words_of}
use Rattle.dr_plain.specs.Calls.Ends.{HalterEnd}
use Rattle.dr_plain.proofs.Allowed.{halter_looks}
use Rattle.dr_plain.proofs.laws.halter.Halter.look.Goals as goal

pub load-requires : goal.load-requires
load-requires g c =
    let within = subst (λ (e : HalterEnd g.row.T.Denot). c.args.word < words_of e.knows.plan) (sym c.self.view_is) c.requires in
    let words = ap (λ (k : Shape). words_of k) c.self.invariant.plan in let at = c.self.invariant.table.1 in (
      search rules,
      subst (λ r. c.args.word < r.table.shared.table_id.words) (sym c.deref.ensures) (omega arith),
      halter_looks _ _ _ _ within c.self.invariant.end,
    )
