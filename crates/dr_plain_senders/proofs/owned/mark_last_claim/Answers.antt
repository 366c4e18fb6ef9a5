use Rattle.std.proofs.Common.{◌-◌, ◌∙◌, arith}
use Rattle.dr_seq.proofs.Sizes.{size_positive}
use Rattle.dr_plain_senders.specs.Inside.Owned.{wiped}
use Rattle.dr_plain_senders.proofs.Marking.{plain_is, as_many}
use Rattle.dr_plain_senders.proofs.owned.mark_last_claim.Goals as goal

pub hide-requires-clause-order : goal.hide-requires-clause-order
hide-requires-clause-order c = let order = c.requires.order in let a = order.0 in let b = order.1 in (omega arith, order.2)

pub hide-requires-clause-some_slot : goal.hide-requires-clause-some_slot
hide-requires-clause-some_slot c = size_positive c.args.size c.requires.made

pub hide-requires-clause-count : goal.hide-requires-clause-count
hide-requires-clause-count c = c.requires.count

pub blank-requires-clause-order : goal.blank-requires-clause-order
blank-requires-clause-order c = (c.requires.order.1, c.requires.order.2)

pub blank-requires-clause-some_slot : goal.blank-requires-clause-some_slot
blank-requires-clause-some_slot c = size_positive c.args.size c.requires.made

pub blank-requires-clause-count : goal.blank-requires-clause-count
blank-requires-clause-count c = as_many c.args.marks.now.items c.hide.new.marks.items c.hide.ensures.others.0 ∙ c.requires.count

pub returns : goal.returns
returns c = let A = c.hide.ensures in let B = c.blank.ensures in let end = c.args.end in
    plain_is c.blank.new.marks.items end ∙ (λ i. record {
      claimed = (B.others.0 ∙ A.others.0) i;
      written = (B.written ∙ (λ j. wiped (A.others.1 j) c.args.filled (end - c.args.filled))) i;
      published = (B.others.1 ∙ A.published) i;
    })
