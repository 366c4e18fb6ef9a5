use Rattle.std.proofs.Common.{◌-◌, length, sym, ap, ◌∙◌, arith}
use Rattle.dr_seq.specs.Rounds.{entry_of}
use Rattle.dr_seq.specs.Stamped.{stamped}
use Rattle.dr_plain_senders.specs.Inside.Owned.{Owned, owned_of}
use Rattle.dr_plain_senders.proofs.Marking.{begins_stretch, shown_next, shown_next_fits}
use Rattle.dr_plain_senders.proofs.owned.Owned.publish.Goals as goal

pub invariant_of-self : goal.invariant_of-self
invariant_of-self c =
    let x = c.self.inside in let order = c.requires.order.0 in
    let from = begins_stretch x.shown x.filled c.args.from c.args.upto (sym c.begins.ensures ∙ c.if-begins.true) in let at = from.0 in
    shown_next_fits x.marks.items x.size x.shown x.filled x.end c.self.invariant c.args.upto (omega arith) from.1

pub returns-then-begins : goal.returns-then-begins
returns-then-begins c =
    let x = c.self.inside in let order = c.requires.order.0 in
    let from = begins_stretch x.shown x.filled c.args.from c.args.upto (sym c.begins.ensures ∙ c.if-begins.true) in let at = from.0 in
    let o : Owned = owned_of x.marks.items x.shown x.filled x.end in
    shown_next x.marks.items x.size x.shown x.filled x.end c.self.invariant c.args.upto (omega arith) from.1
    ∙ (λ i. record o { published = stamped (entry_of (length o.published)) o.published (sym at i) (c.args.upto - sym at i) })
    ∙ ap (λ (w : Owned). record w { published = stamped (entry_of (length w.published)) w.published c.args.from (c.args.upto - c.args.from) }) c.self.view_is
