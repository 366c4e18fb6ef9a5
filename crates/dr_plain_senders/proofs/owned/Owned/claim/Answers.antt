use Rattle.std.proofs.Common.{◌≡◌, ◌+◌, ◌-◌, ◌≤◌, ℕ, List, length, map, refl, sym, ap, ◌∙◌, subst, arith}
use Rattle.std.specs.Vec.{with_items}
use Rattle.std.proofs.lemmas.List.{length-map, with_items_is}
use Rattle.dr_seq.specs.Rounds.{entry_of}
use Rattle.dr_seq.specs.Stamped.{stamped}
use Rattle.dr_plain_senders.specs.declared.owned.Mark.{Mark}
use Rattle.dr_plain_senders.specs.Inside.Owned.{Owned, OwnedFits, owned_of, claimed_by, done, after_claim}
use Rattle.dr_plain_senders.proofs.Marking.{plain, plain_is, as_many, as_many_set, claimed_is, claimed_fits}
use Rattle.dr_plain_senders.proofs.owned.Owned.claim.Goals as goal
use Rattle.dr_plain_senders.proofs.owned.Owned.claim.Goals.{After-mark_last_claim, After-mark_all}

settled : (c : After-mark_last_claim) → plain c.mark_last_claim.new.marks.items ≡ c.args.self.now
settled c = sym (plain_is c.mark_last_claim.new.marks.items c.self.inside.end) ∙ c.mark_last_claim.ensures ∙ c.self.view_is

count : (c : After-mark_last_claim) → length c.mark_last_claim.new.marks.items ≡ c.self.inside.size
count c = as_many c.self.inside.marks.items c.mark_last_claim.new.marks.items (ap (λ (o : Owned). o.claimed) c.mark_last_claim.ensures) ∙ c.self.invariant.count

marked : (c : After-mark_all) (f : Mark → ℕ)
    → map f c.mark_all.new.marks ≡ stamped (λ s. f (done (entry_of c.self.inside.size s))) (map f c.mark_last_claim.new.marks.items) c.args.from
    (c.args.upto - c.args.from)
marked c f = c.mark_all.ensures f
    ∙ ap (λ (xs : List Mark). stamped (λ s. f (done (entry_of c.self.inside.size s))) (map f xs) c.args.from (c.args.upto - c.args.from))
    c.deref_mut.ensures.value

few : (c : After-mark_last_claim) → c.args.upto - c.args.from ≤ c.self.inside.size
few c =
    let items = c.self.inside.marks.items in
    let round : c.args.upto ≤ c.args.from + length (map claimed_by items) = subst (λ (o : Owned). c.args.upto ≤ c.args.from + length o.claimed)
    (sym c.self.view_is) c.requires.round in
    let len = length-map items claimed_by in let many = c.self.invariant.count in omega arith

pub mark_all-requires-clause-count : goal.mark_all-requires-clause-count
mark_all-requires-clause-count c = ap length c.deref_mut.ensures.value ∙ count (goal.at.mark_all-requires-clause-count c).After-mark_last_claim

-- the marks are those that it was given to set
same : (c : After-mark_all) → length c.mark_last_claim.new.marks.items ≡ c.self.inside.size
    → (with_items c.mark_last_claim.new.marks c.mark_all.new.marks).items ≡ c.mark_all.new.marks
same c all =
    let n = c.args.upto - c.args.from in let many = as_many_set c.mark_last_claim.new.marks.items c.mark_all.new.marks c.self.inside.size c.args.from n all (marked c) in
    with_items_is c.mark_last_claim.new.marks c.mark_all.new.marks (many ∙ sym all ∙ sym c.mark_last_claim.new.marks.ok.0)

pub invariant_of-self : goal.invariant_of-self
invariant_of-self c =
    let P = goal.at.invariant_of-self c in
    subst (λ (xs : List Mark). OwnedFits xs c.self.inside.size c.args.from c.args.from c.args.upto) (sym (same P.After-mark_all (count P.After-mark_last_claim)))
    (claimed_fits c.mark_last_claim.new.marks.items c.mark_all.new.marks c.self.inside.size c.args.from (c.args.upto - c.args.from) (count P.After-mark_last_claim)
    (marked P.After-mark_all) c.args.upto
    c.self.invariant.made (few P.After-mark_last_claim) refl c.requires.order.0 c.requires.order.1)

pub returns : goal.returns
returns c =
    let P = goal.at.returns c in let n = c.args.upto - c.args.from in
    (λ i. owned_of (same P.After-mark_all (count P.After-mark_last_claim) i) c.args.from c.args.from c.args.upto)
    ∙ claimed_is c.mark_last_claim.new.marks.items c.mark_all.new.marks c.self.inside.size c.args.from n (count P.After-mark_last_claim) (marked P.After-mark_all)
    c.args.upto (few P.After-mark_last_claim) refl
    ∙ ap (λ (o : Owned). after_claim o c.args.from n) (settled P.After-mark_last_claim)
