use Rattle.std.proofs.Common.{◌≡◌, ◌-◌, ◌%◌, ℕ, length, map, refl, sym, ap, ◌∙◌, arith}
use Rattle.std.proofs.lemmas.List.{length-map}
use Rattle.std.proofs.Math.Nat.{mod-lt}
use Rattle.dr_plain_senders.specs.Inside.Owned.{written_by, wiped}
use Rattle.dr_plain_senders.proofs.Marking.{as_many, blanked_one}
use Rattle.dr_plain_senders.proofs.Stamps.{none_set, next_set}
use Rattle.dr_plain_senders.proofs.owned.blank.Goals as goal

pub loop-sequence-init : goal.loop-sequence-init
loop-sequence-init c = (sym (none_set (λ _. 0) (map written_by c.args.marks.now.items) c.args.from), refl, refl)

pub index_mut-requires : goal.index_mut-requires
index_mut-requires c =
    let inv = c.loop-sequence.invariant in let many = as_many c.args.marks.now.items c.loop-sequence.marks.items inv.1 in let count = c.requires.count in
    let lt = mod-lt c.loop-sequence.sequence c.requires.some_slot in let place = c.slot-slot.ensures in let len = c.loop-sequence.marks.ok.0 in omega arith

pub loop-sequence-preserved : goal.loop-sequence-preserved
loop-sequence-preserved c =
    let inv = c.loop-sequence.invariant in let s = c.loop-sequence.sequence in let low = c.loop-sequence.auto.sequence in
    let one = blanked_one c.loop-sequence.marks.items c.slot-slot.result c.index_mut.result.now c.index_mut.ensures.value in
    let xs = map written_by c.args.marks.now.items in
    let place : c.slot-slot.result ≡ s % length xs = c.slot-slot.ensures
    ∙ ap (λ (n : ℕ). s % n) (sym (length-map c.args.marks.now.items written_by ∙ c.requires.count)) in (
      one.0 ∙ next_set (λ _. 0) xs (map written_by c.loop-sequence.marks.items) c.args.from s c.slot-slot.result low place inv.0,
      one.1 ∙ inv.1,
      one.2 ∙ inv.2,
    )

pub returns-clause-written : goal.returns-clause-written
returns-clause-written c =
    let inv = c.loop-sequence.invariant in let end = c.loop-sequence.auto.sequence-end in let order = c.requires.order.0 in
    let over = c.loop-sequence-test.false in let low = c.loop-sequence.auto.sequence in
    let all : c.loop-sequence.sequence - c.args.from ≡ c.args.upto - c.args.from = omega arith in
    inv.0 ∙ ap (λ (n : ℕ). wiped (map written_by c.args.marks.now.items) c.args.from n) all

pub returns-clause-others : goal.returns-clause-others
returns-clause-others c = (c.loop-sequence.invariant.1, c.loop-sequence.invariant.2)
