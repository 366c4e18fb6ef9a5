use Rattle.std.proofs.Common.{◌≡◌, ◌%◌, true, length, set, sym, ap, ◌∙◌, arith, length-set}
use Rattle.std.proofs.Math.Nat.{mod-lt}
use Rattle.dr_seq.specs.Rounds.{entry_of}
use Rattle.dr_seq.proofs.Sizes.{size_positive}
use Rattle.dr_plain_senders.specs.Inside.Owned.{Owned, is_open}
use Rattle.dr_plain_senders.proofs.Marking.{in_stretch, written_again, plain, plain_is, plain_fits, as_many, written_one}
use Rattle.dr_plain_senders.proofs.owned.Owned.write_apart.Goals as goal
use Rattle.dr_plain_senders.proofs.owned.Owned.write_apart.Goals.{After-mark_last_claim}

settled : (c : After-mark_last_claim) → plain c.mark_last_claim.new.marks.items ≡ c.args.self.now
settled c = sym (plain_is c.mark_last_claim.new.marks.items c.self.inside.end) ∙ c.mark_last_claim.ensures ∙ c.self.view_is

count : (c : After-mark_last_claim) → length c.mark_last_claim.new.marks.items ≡ c.self.inside.size
count c = as_many c.self.inside.marks.items c.mark_last_claim.new.marks.items (ap (λ (o : Owned). o.claimed) c.mark_last_claim.ensures) ∙ c.self.invariant.count

opened : (c : After-mark_last_claim) → is_open (plain c.mark_last_claim.new.marks.items) c.args.sequence ≡ true
opened c = ap (λ (o : Owned). is_open o c.args.sequence) (settled c) ∙ c.requires.opened

pub returns-then-is_in : goal.returns-then-is_in
returns-then-is_in c =
    let x = c.self.inside in let s = c.args.sequence in let within = in_stretch x.shown x.filled s (sym c.is_in.ensures ∙ c.if-is_in.true) in
    sym c.self.view_is ∙ written_again x.marks.items x.size x.shown x.filled x.end c.self.invariant s within.0 within.1
    ∙ ap (λ (w : Owned). record w { written = set w.written (s % length w.written) (entry_of (length w.written) s) }) c.self.view_is

pub index_mut-requires : goal.index_mut-requires
index_mut-requires c =
    let F = c.self.invariant in let lt = mod-lt c.args.sequence (size_positive c.self.inside.size F.made) in let place = c.slot-slot.ensures in
    let many = count (goal.at.index_mut-requires c).After-mark_last_claim in let len = c.mark_last_claim.new.marks.ok.0 in omega arith

pub invariant_of-self : goal.invariant_of-self
invariant_of-self c =
    plain_fits _ c.self.inside.size c.self.inside.end (length-set c.mark_last_claim.new.marks.items _ _ ∙ count (goal.at.invariant_of-self c).After-mark_last_claim)
    c.self.invariant.made c.self.invariant.order.2

pub returns : goal.returns
returns c =
    let P = (goal.at.returns c).After-mark_last_claim in let s = c.args.sequence in let pos = size_positive c.self.inside.size c.self.invariant.made in
    plain_is _ c.self.inside.end
    ∙ written_one c.mark_last_claim.new.marks.items c.self.inside.size s c.slot-slot.result c.index_mut.result.now (count P) pos (opened P) c.slot-slot.ensures
    c.index_mut.ensures.value
    ∙ ap (λ (w : Owned). record w { written = set w.written (s % length w.written) (entry_of (length w.written) s) }) (settled P)
