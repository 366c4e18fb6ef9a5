use Rattle.std.proofs.Common.{ℕ, ◌≡◌, ◌%◌, ◌<◌, arith, refl, ap, ◌∙◌, subst}
use Rattle.std.proofs.Math.Nat.{mod-lt}
use lib.ListN.{get_elem?}
use Rattle.dr_lent.proofs.Tokens.{can_join}
use Rattle.dr_plain.specs.Meaning.Words.{cell_of}
use Rattle.dr_plain.specs.Inside.Finishing.{TakesLane, OnePartBack}
use Rattle.dr_runs.proofs.Elements.{there}
use Rattle.dr_plain.proofs.Returning.{untouched_none, back_none, back_more, lane_begins, may_draw, drawn, next_out}
use Rattle.dr_plain.proofs.reclaiming.reclaim_lane.Goals as goal

pub loop-sequence-init : goal.loop-sequence-init
loop-sequence-init g c = (refl, omega arith, lane_begins c.args.plan.now _ _ _ _ _, untouched_none c.args.plan.now _ _, back_none c.args.plan.now _ _)

pub draw-part-requires : goal.draw-part-requires
draw-part-requires g c =
    let inv = c.loop-sequence.invariant in let lane = c.requires.lane in let L = lane.2 in let s = c.loop-sequence.sequence in let lt = c.loop-sequence-test.true in
    let place = c.slot-place.ensures ∙ ap (λ (n : ℕ). s % n) c.size.ensures in let U = inv.3 in let count = U.count in let places = L.places in
    let inside = c.slot-slot.ensures.inside in record {
      table = inv.0 ∙ c.requires.table;
      place = (
          let some_slot : 0 < c.args.plan.now.size = (let near = L.near in let low = inv.1 in omega arith) in
          let inside : s % c.args.plan.now.size < c.args.plan.now.size = mod-lt s some_slot in omega arith);
      slot = may_draw _ _ _ _ _ s lane.0 _ lane.1 _ _ _ _ c.is_in_hand-held.result L inv.2 (omega arith) c.slot-slot.ensures.place c.is_in_hand-held.ensures;
    }

pub join_at-requires : goal.join_at-requires
join_at-requires g c =
    let inv = c.loop-sequence.invariant in let lane = c.requires.lane in let L = lane.2 in let s = c.loop-sequence.sequence in let lt = c.loop-sequence-test.true in
    let all = L.count in let l = there lane.1 s (omega arith) in let place = c.slot-place.ensures ∙ ap (λ (n : ℕ). s % n) c.size.ensures in
    let D = drawn _ _ _ _ _ s lane.0 c.slot-slot.result c.slot-place.result lane.1 _ _ _ _ _ _ _ c.is_in_hand-held.result _ L inv.2 inv.3 inv.1 (omega arith) place c.slot-slot.ensures.place
    c.is_in_hand-held.ensures c.draw-part.ensures.drawn in
    let out_now = next_out _ _ _ _ _ s lane.0 lane.1 _ _ _ _ l.0 L inv.4 inv.1 (omega arith) l.1 in (
      _,
      ap (λ (n : ℕ). get_elem? c.loop-sequence.tokens.items n) place ∙ out_now,
      can_join c.args.plan.now.strip (cell_of c.args.plan.now s) _ _ lane.0 l.0 refl (D.is l.0 l.1) L.some_part,
    )

pub loop-sequence-preserved : goal.loop-sequence-preserved
loop-sequence-preserved g c =
    let inv = c.loop-sequence.invariant in let lane = c.requires.lane in let L = lane.2 in let s = c.loop-sequence.sequence in let lt = c.loop-sequence-test.true in
    let all = L.count in let l = there lane.1 s (omega arith) in let place = c.slot-place.ensures ∙ ap (λ (n : ℕ). s % n) c.size.ensures in
    let D = drawn _ _ _ _ _ s lane.0 c.slot-slot.result c.slot-place.result lane.1 _ _ _ _ _ _ _ c.is_in_hand-held.result _ L inv.2 inv.3 inv.1 (omega arith) place c.slot-slot.ensures.place
    c.is_in_hand-held.ensures c.draw-part.ensures.drawn in
    let new = c.join_at.ensures in let near = L.near in let low = inv.1 in (
      c.draw-part.ensures.seat ∙ inv.0,
      omega arith,
      D.hand_is,
      D.parts_are,
      back_more _ _ s c.slot-place.result _ _ _ new.0 inv.4 inv.1 (omega arith) place new.1 new.2,
    )

pub returns-clause-hand : goal.returns-clause-hand
returns-clause-hand g c =
    let inv = c.loop-sequence.invariant in let over = c.loop-sequence-test.false in let end = c.loop-sequence.auto.sequence-end in let s = c.loop-sequence.sequence in
    let all : s ≡ c.args.upto = (let low = c.requires.order in omega arith) in
    subst (λ (n : ℕ). TakesLane c.args.plan.now c.args.handler c.args.counts c.args.first c.args.upto n c.args.seat.now.me.1 c.loop-sequence.seat.me.1) all inv.2

pub returns-clause-back : goal.returns-clause-back
returns-clause-back g c =
    let inv = c.loop-sequence.invariant in let over = c.loop-sequence-test.false in let end = c.loop-sequence.auto.sequence-end in let s = c.loop-sequence.sequence in
    let all : s ≡ c.args.upto = (let low = c.requires.order in omega arith) in
    subst (λ (n : ℕ). OnePartBack c.args.plan.now c.args.first n c.args.tokens.now.items c.loop-sequence.tokens.items) all inv.4
