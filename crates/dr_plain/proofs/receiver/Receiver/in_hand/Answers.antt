use Rattle.std.proofs.Common.{◌≡◌, ◌<◌, ◌≤◌, length, sym, ap, ◌∙◌, subst}
use mathlib.Core.Option.{some}
use lib.ListN.{get_elem?}
use Rattle.dr_runs.proofs.Lists.{map_there}
use Rattle.dr_runs.proofs.Elements.{there}
use Rattle.dr_lent.specs.declared.lent.Lent.{Lent}
use Rattle.dr_lent.specs.Events.{events_of}
use Rattle.dr_plain.specs.Calls.Ends.{ReceiverEnd}
use Rattle.dr_plain.specs.declared.record.ReceiverRecord.{ReceiverRecord}
use Rattle.dr_plain.proofs.receiver.Receiver.in_hand.Goals as goal

pub read-requires : goal.read-requires
read-requires g c =
    let r = c.self.inside.station.knows in let low = c.requires.low in let high = c.requires.high in
    let knows = ap (λ (e : ReceiverEnd g.row.T.Denot). e.knows) c.self.view_is in
    let t = there r.received c.args.sequence (subst (λ (x : ReceiverRecord g.row.T.Denot). c.args.sequence < length x.received) (sym knows) high) in
    (t.0, c.self.invariant.parts.held c.args.sequence t.0 (subst (λ (x : ReceiverRecord g.row.T.Denot). x.completed ≤ c.args.sequence) (sym knows) low) t.1)

pub returns : goal.returns
returns g c =
    let r = c.self.inside.station.knows in let low = c.requires.low in let high = c.requires.high in
    let knows = ap (λ (e : ReceiverEnd g.row.T.Denot). e.knows) c.self.view_is in
    let t = there r.received c.args.sequence (subst (λ (x : ReceiverRecord g.row.T.Denot). c.args.sequence < length x.received) (sym knows) high) in
    let held = c.self.invariant.parts.held c.args.sequence t.0 (subst (λ (x : ReceiverRecord g.row.T.Denot). x.completed ≤ c.args.sequence) (sym knows) low) t.1 in
    subst (λ (x : ReceiverRecord g.row.T.Denot). get_elem? (events_of x.received) c.args.sequence ≡ some c.read.result.now) knows
    (map_there (λ (l : Lent g.row.T.Denot). l.event) r.received c.args.sequence t.0 t.1 ∙ ap some (sym (c.read.ensures t.0 held)))
