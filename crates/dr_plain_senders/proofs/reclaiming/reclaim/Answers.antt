use Rattle.std.proofs.Common.{◌≡◌, ◌%◌, ◌<◌, ℕ, arith, ap, sym, ◌∙◌}
use Rattle.std.proofs.Math.Nat.{mod-lt}
use lib.ListN.{get_elem?}
use Rattle.dr_seq.proofs.Sizes.{size_positive}
use Rattle.dr_runs.proofs.Elements.{at_index}
use Rattle.dr_plain_senders.proofs.Returning.{back_all, told, back_next, wide_next, room_next}
use Rattle.dr_plain_senders.proofs.reclaiming.reclaim.Goals as goal

pub reclaim_one-requires-clause-row : goal.reclaim_one-requires-clause-row
reclaim_one-requires-clause-row g c =
    let k = c.args.plan.now in
    let s = c.loop-sequence.sequence in
    let inv = c.loop-sequence.invariant in
    let R = c.requires.rows in
    let lt = c.loop-sequence-test.true in
    let end = c.loop-sequence.auto.sequence-end in
    let size = c.get.ensures.value ∙ c.size.ensures in let positive = size_positive c.get.result c.get.ensures.size in let places = c.requires.places in
    let inside : s % k.size < k.size = mod-lt s (omega arith) in let many = places.1 in
    let place : c.slot.result ≡ s % k.size = c.slot.ensures ∙ ap (λ (n : ℕ). s % n) c.size-in-loop-sequence.ensures in
    let marked = ap (λ (n : ℕ). get_elem? c.args.brought.now.items n) (sym place)
    ∙ at_index c.args.brought.now.items c.slot.result c.index-is_brought.result.now (omega arith) c.index-is_brought.ensures in
    told k c.args.counts.now.items c.args.claimed s R.0 _ _ c.args.brought.now.items R.1
    c.args.tokens.items _ _ c.loop-sequence.tokens.items (inv.4 R.0 R.1) inv.1 (omega arith) c.index-is_brought.result.now marked

pub loop-sequence-preserved : goal.loop-sequence-preserved
loop-sequence-preserved g c =
    let k = c.args.plan.now in let s = c.loop-sequence.sequence in let inv = c.loop-sequence.invariant in let lt = c.loop-sequence-test.true in
    let end = c.loop-sequence.auto.sequence-end in let low = inv.1 in
    let size = c.get.ensures.value ∙ c.size.ensures in let positive = size_positive c.get.result c.get.ensures.size in let places = c.requires.places in
    let some_slot : 0 < k.size = omega arith in
    let inside : s % k.size < k.size = mod-lt s some_slot in let many = places.1 in
    let place : c.slot.result ≡ s % k.size = c.slot.ensures ∙ ap (λ (n : ℕ). s % n) c.size-in-loop-sequence.ensures in
    let marked = ap (λ (n : ℕ). get_elem? c.args.brought.now.items n) (sym place)
    ∙ at_index c.args.brought.now.items c.slot.result c.index-is_brought.result.now (omega arith) c.index-is_brought.ensures in (
      c.reclaim_one.ensures.seat ∙ inv.0,
      omega arith,
      wide_next k _ _ _ inv.2 c.reclaim_one.ensures.hands,
      room_next c.index-is_brought.result.now k c.args.counts.now.items s _ _ _ _ _ c.reclaim_one.ensures.back ∙ inv.3,
      λ laid R. back_next k c.args.counts.now.items c.args.claimed s laid _ _ c.args.brought.now.items
          R c.args.tokens.items _ _ c.loop-sequence.tokens.items (inv.4 laid R) inv.1 (omega arith)
          c.index-is_brought.result.now marked _ _ _ inv.3 some_slot c.reclaim_one.ensures.hands c.reclaim_one.ensures.back,
    )

pub returns : goal.returns
returns g c =
    let k = c.args.plan.now in let s = c.loop-sequence.sequence in let inv = c.loop-sequence.invariant in let over = c.loop-sequence-test.false in
    let end = c.loop-sequence.auto.sequence-end in let size = c.get.ensures.value ∙ c.size.ensures in let low = inv.1 in record {
      back =
          λ laid R. back_all k c.args.counts.now.items c.args.claimed s laid
          c.args.tokens.items _ _ c.loop-sequence.tokens.items R.count (omega arith) (inv.4 laid R);
    }
