use Rattle.std.proofs.Common.{sym, ap, ◌∙◌}
use Rattle.dr_plain_senders.specs.Inside.Owned.{Owned, is_open}
use Rattle.dr_plain_senders.proofs.Marking.{in_stretch, out_of_stretch, some_slot, open_in, open_out}
use Rattle.dr_plain_senders.proofs.owned.Owned.is_open.Goals as goal

pub read-mark-requires : goal.read-mark-requires
read-mark-requires c = let x = c.self.inside in (c.self.invariant.count, some_slot x.marks.items x.size x.shown x.filled x.end c.self.invariant)

pub returns-then-is_in : goal.returns-then-is_in
returns-then-is_in c =
    let x = c.self.inside in let s = c.args.sequence in let within = in_stretch x.shown x.end s (sym c.is_in.ensures ∙ c.if-is_in.true) in
    sym (open_in x.marks.items x.size x.shown x.filled x.end c.self.invariant s within.0 within.1) ∙ ap (λ (o : Owned). is_open o s) c.self.view_is

pub returns : goal.returns
returns c =
    let x = c.self.inside in let s = c.args.sequence in let out = out_of_stretch x.shown x.end s (sym c.is_in.ensures ∙ c.if-is_in.false) in
    c.both.ensures
    ∙ open_out x.marks.items x.size x.shown x.filled x.end c.self.invariant s c.entry.result c.read-mark.result out c.read-mark.ensures c.entry.ensures
    ∙ ap (λ (o : Owned). is_open o s) c.self.view_is
