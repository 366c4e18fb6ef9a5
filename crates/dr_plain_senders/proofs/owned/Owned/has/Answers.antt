use Rattle.std.proofs.Common.{sym, ap, ◌∙◌}
use Rattle.dr_seq.specs.Rounds.{is_marked}
use Rattle.dr_plain_senders.specs.Inside.Owned.{Owned}
use Rattle.dr_plain_senders.proofs.Marking.{in_stretch, some_slot, is_claimed_by}
use Rattle.dr_plain_senders.proofs.owned.Owned.has.Goals as goal

pub read-mark-requires : goal.read-mark-requires
read-mark-requires c = let x = c.self.inside in (c.self.invariant.count, some_slot x.marks.items x.size x.shown x.filled x.end c.self.invariant)

pub returns-then-is_in : goal.returns-then-is_in
returns-then-is_in c =
    let x = c.self.inside in let s = c.args.sequence in let within = in_stretch x.shown x.end s (sym c.is_in.ensures ∙ c.if-is_in.true) in
    sym (c.self.invariant.claimed s within.0 within.1) ∙ ap (λ (o : Owned). is_marked o.claimed s) c.self.view_is

pub returns : goal.returns
returns c =
    let x = c.self.inside in let s = c.args.sequence in
    is_claimed_by x.marks.items x.size s c.entry.result c.read-mark.result c.self.invariant.count c.read-mark.ensures c.entry.ensures
    ∙ ap (λ (o : Owned). is_marked o.claimed s) c.self.view_is
