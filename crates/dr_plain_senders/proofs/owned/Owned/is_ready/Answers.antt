use Rattle.std.proofs.Common.{Bool, sym, ap, ◌∙◌, ◌&&◌, inl, inr}
use Rattle.std.proofs.lemmas.Bool.{cases_lt, lt-ltb, le-ltb}
use Rattle.dr_plain_senders.specs.Inside.Owned.{Owned, is_ready}
use Rattle.dr_plain_senders.proofs.Marking.{in_stretch, out_of_stretch, some_slot, ready_in, unready_in, ready_out}
use Rattle.dr_plain_senders.proofs.owned.Owned.is_ready.Goals as goal

pub read-mark-requires : goal.read-mark-requires
read-mark-requires c = let x = c.self.inside in (c.self.invariant.count, some_slot x.marks.items x.size x.shown x.filled x.end c.self.invariant)

pub returns-then-is_in : goal.returns-then-is_in
returns-then-is_in c =
    let x = c.self.inside in let s = c.args.sequence in let within = in_stretch x.shown x.end s (sym c.is_in.ensures ∙ c.if-is_in.true) in
    elim (cases_lt s x.filled) [
      | inl early ↦ lt-ltb s x.filled early ∙ sym (ready_in x.marks.items x.size x.shown x.filled x.end c.self.invariant s within.0 early)
      | inr late ↦ le-ltb s x.filled late ∙ sym (unready_in x.marks.items x.size x.shown x.filled x.end c.self.invariant s late within.1)
    ] ∙ ap (λ (o : Owned). is_ready o s) c.self.view_is

pub returns : goal.returns
returns c =
    let x = c.self.inside in let s = c.args.sequence in let m = c.read-mark.result in
    let out = out_of_stretch x.shown x.end s (sym c.is_in.ensures ∙ c.if-is_in.false) in
    c.both.ensures ∙ ap (λ (b : Bool). b && m.is_written) c.both-opened.ensures
    ∙ ready_out x.marks.items x.size x.shown x.filled x.end c.self.invariant s c.entry.result m out c.read-mark.ensures c.entry.ensures
    ∙ ap (λ (o : Owned). is_ready o s) c.self.view_is
