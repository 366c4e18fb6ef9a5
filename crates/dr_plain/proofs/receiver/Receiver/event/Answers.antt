use Rattle.std.proofs.Common.{arith, sym, ap, ◌∙◌, subst}
use mathlib.Core.Option.{some}
use Rattle.dr_runs.proofs.Lists.{map_there}
use Rattle.dr_lent.specs.declared.lent.Lent.{Lent}
use Rattle.dr_plain.specs.Calls.Ends.{ReceiverEnd}
use Rattle.dr_plain.specs.Calls.Receiving.{ReadsInHand}
use Rattle.dr_runs.proofs.Elements.{there}
use Rattle.dr_plain.proofs.receiver.Receiver.event.Goals as goal

pub read-requires : goal.read-requires
read-requires g c =
    let r = c.self.inside.station.knows in let low = c.if-sequence-self.false in let high = c.if-sequence-upto.false in
    let done = c.self.invariant.completed in let all = c.self.invariant.taken in let t = there r.received c.args.sequence (omega arith) in
    (t.0, c.self.invariant.parts.held c.args.sequence t.0 (omega arith) t.1)

pub returns-clause-some : goal.returns-clause-some
returns-clause-some g c =
    let r = c.self.inside.station.knows in let low = c.if-sequence-self.false in let high = c.if-sequence-upto.false in
    let done = c.self.invariant.completed in let all = c.self.invariant.taken in let t = there r.received c.args.sequence (omega arith) in
    let is = c.read.ensures t.0 (c.self.invariant.parts.held c.args.sequence t.0 (omega arith) t.1) in
    subst (λ (e : ReceiverEnd g.row.T.Denot). ReadsInHand e.knows c.args.sequence c.read.result.now) c.self.view_is
    (omega arith, map_there (λ (l : Lent g.row.T.Denot). l.event) r.received c.args.sequence t.0 t.1 ∙ ap some (sym is))
