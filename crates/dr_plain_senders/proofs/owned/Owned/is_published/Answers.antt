use Rattle.std.proofs.Common.{refl, sym, ap, ◌∙◌}
use Rattle.dr_seq.specs.Rounds.{is_marked}
use Rattle.dr_plain_senders.specs.Inside.Owned.{Owned, owned_of, published_by}
use Rattle.dr_plain_senders.proofs.Marking.{in_stretch, out_of_stretch, some_slot, open_in, open_hidden, published_out, is_flagged_by}
use Rattle.dr_plain_senders.proofs.owned.Owned.is_published.Goals as goal

pub read-mark-requires : goal.read-mark-requires
read-mark-requires c = let x = c.self.inside in (c.self.invariant.count, some_slot x.marks.items x.size x.shown x.filled x.end c.self.invariant)

pub returns-then-is_in : goal.returns-then-is_in
returns-then-is_in c =
    let x = c.self.inside in let s = c.args.sequence in let within = in_stretch x.shown x.end s (sym c.is_in.ensures ∙ c.if-is_in.true) in
    sym (open_hidden (owned_of x.marks.items x.shown x.filled x.end) s (open_in x.marks.items x.size x.shown x.filled x.end c.self.invariant s within.0
    within.1))
    ∙ ap (λ (o : Owned). is_marked o.published s) c.self.view_is

pub returns : goal.returns
returns c =
    let x = c.self.inside in let s = c.args.sequence in let m = c.read-mark.result in
    let out = out_of_stretch x.shown x.end s (sym c.is_in.ensures ∙ c.if-is_in.false) in
    c.both.ensures
    ∙ is_flagged_by published_by m.is_published x.marks.items x.size s c.entry.result m c.self.invariant.count (c.read-mark.ensures published_by) refl
    c.entry.ensures
    ∙ sym (published_out x.marks.items x.size x.shown x.filled x.end c.self.invariant s out) ∙ ap (λ (o : Owned). is_marked o.published s) c.self.view_is
