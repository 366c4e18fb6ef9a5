use Rattle.std.proofs.Common.{◌≡◌, ◌+◌, ◌-◌, ◌<◌, ◌≤◌, ℕ, List, true, length, map, sym, ap, ◌∙◌, arith}
use Rattle.std.specs.Vec.{with_items}
use Rattle.std.proofs.lemmas.List.{with_items_is}
use Rattle.dr_seq.specs.Rounds.{entry_of}
use Rattle.dr_seq.specs.Stamped.{stamped}
use Rattle.dr_plain_senders.specs.declared.owned.Mark.{Mark}
use Rattle.dr_plain_senders.specs.Inside.Owned.{Owned, done, is_ready}
use Rattle.dr_plain_senders.proofs.Marking.{plain, plain_is, plain_fits, as_many, as_many_set, shown_is}
use Rattle.dr_plain_senders.proofs.owned.Owned.publish_apart.Goals as goal
use Rattle.dr_plain_senders.proofs.owned.Owned.publish_apart.Goals.{After-mark_last_claim, After-mark_all}

settled : (c : After-mark_last_claim) → plain c.mark_last_claim.new.marks.items ≡ c.args.self.now
settled c = sym (plain_is c.mark_last_claim.new.marks.items c.self.inside.end) ∙ c.mark_last_claim.ensures ∙ c.self.view_is

count : (c : After-mark_last_claim) → length c.mark_last_claim.new.marks.items ≡ c.self.inside.size
count c = as_many c.self.inside.marks.items c.mark_last_claim.new.marks.items (ap (λ (o : Owned). o.claimed) c.mark_last_claim.ensures) ∙ c.self.invariant.count

marked : (c : After-mark_all) (f : Mark → ℕ)
    → map f c.mark_all.new.marks ≡ stamped (λ s. f (done (entry_of c.self.inside.size s))) (map f c.mark_last_claim.new.marks.items) c.args.from
    (c.args.upto - c.args.from)
marked c f = c.mark_all.ensures f
    ∙ ap (λ (xs : List Mark). stamped (λ s. f (done (entry_of c.self.inside.size s))) (map f xs) c.args.from (c.args.upto - c.args.from))
    c.deref_mut.ensures.value

could : (c : After-mark_last_claim) (s : ℕ) → c.args.from ≤ s → s < c.args.from + (c.args.upto - c.args.from) → is_ready (plain c.mark_last_claim.new.marks.items) s ≡ true
could c s low high = let order = c.requires.order.0 in ap (λ (o : Owned). is_ready o s) (settled c) ∙ c.requires.ready s low (omega arith)

pub mark_all-requires-clause-count : goal.mark_all-requires-clause-count
mark_all-requires-clause-count c = ap length c.deref_mut.ensures.value ∙ count (goal.at.mark_all-requires-clause-count c).After-mark_last_claim

-- the marks are those that it was given to set
same : (c : After-mark_all) → length c.mark_last_claim.new.marks.items ≡ c.self.inside.size
    → (with_items c.mark_last_claim.new.marks c.mark_all.new.marks).items ≡ c.mark_all.new.marks
same c all =
    let n = c.args.upto - c.args.from in let many = as_many_set c.mark_last_claim.new.marks.items c.mark_all.new.marks c.self.inside.size c.args.from n all (marked c) in
    with_items_is c.mark_last_claim.new.marks c.mark_all.new.marks (many ∙ sym all ∙ sym c.mark_last_claim.new.marks.ok.0)

pub invariant_of-self : goal.invariant_of-self
invariant_of-self c =
    let P = goal.at.invariant_of-self c in let n = c.args.upto - c.args.from in
    plain_fits _ c.self.inside.size c.self.inside.end
    (ap length (same P.After-mark_all (count P.After-mark_last_claim)) ∙ as_many_set c.mark_last_claim.new.marks.items c.mark_all.new.marks c.self.inside.size c.args.from n
    (count P.After-mark_last_claim) (marked P.After-mark_all)) c.self.invariant.made c.self.invariant.order.2

pub returns : goal.returns
returns c =
    let P = goal.at.returns c in let n = c.args.upto - c.args.from in
    plain_is _ c.self.inside.end ∙ ap plain (same P.After-mark_all (count P.After-mark_last_claim))
    ∙ shown_is c.mark_last_claim.new.marks.items c.mark_all.new.marks c.self.inside.size c.args.from n (count P.After-mark_last_claim) (marked P.After-mark_all)
    (could P.After-mark_last_claim)
    ∙ ap (λ (o : Owned). record o { published = stamped (entry_of (length o.published)) o.published c.args.from n }) (settled P.After-mark_last_claim)
