use Rattle.std.proofs.Common.{◌+◌, ◌%◌, ℕ, length, set, sym, ap, ◌∙◌, subst}
use Rattle.dr_seq.specs.Rounds.{entry_of}
use Rattle.dr_plain_senders.specs.Inside.Owned.{Owned, OwnedFits, owned_of}
use Rattle.dr_plain_senders.proofs.Marking.{first_of_stretch, written_next, written_next_fits}
use Rattle.dr_plain_senders.proofs.owned.Owned.write.Goals as goal

pub invariant_of-self : goal.invariant_of-self
invariant_of-self c =
    let x = c.self.inside in let first = first_of_stretch x.filled x.end c.args.sequence (sym c.is_first.ensures ∙ c.if-is_first.true) in
    subst (λ (s : ℕ). OwnedFits x.marks.items x.size x.shown (s + 1) x.end) (sym first.0)
    (written_next_fits x.marks.items x.size x.shown x.filled x.end c.self.invariant first.1)

pub returns-then-is_first : goal.returns-then-is_first
returns-then-is_first c =
    let x = c.self.inside in let s = c.args.sequence in let first = first_of_stretch x.filled x.end s (sym c.is_first.ensures ∙ c.if-is_first.true) in
    let o : Owned = owned_of x.marks.items x.shown x.filled x.end in
    (λ i. owned_of x.marks.items x.shown (first.0 i + 1) x.end) ∙ written_next x.marks.items x.size x.shown x.filled x.end c.self.invariant first.1
    ∙ (λ i. record o { written = set o.written (sym first.0 i % length o.written) (entry_of (length o.written) (sym first.0 i)) })
    ∙ ap (λ (w : Owned). record w { written = set w.written (s % length w.written) (entry_of (length w.written) s) }) c.self.view_is
