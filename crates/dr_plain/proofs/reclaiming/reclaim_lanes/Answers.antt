use Rattle.std.proofs.Common.{◌+◌, ◌-◌, ◌<◌, ◌++◌, List, Vec, Global, length, drop, arith, refl, sym, ◌∙◌, append_assoc}
use Rattle.std.proofs.lemmas.List.{map-set, length-map}
use Rattle.dr_cells.specs.declared.token.Token.{Token}
use Rattle.dr_runs.proofs.Lists.{map_there}
use Rattle.dr_plain.specs.Meaning.Shape.{handlers_of}
use Rattle.dr_plain.specs.Inside.Finishing.{all_left}
use Rattle.dr_runs.proofs.Elements.{at_index}
use Rattle.dr_plain.proofs.Returning.{out_all, out_less, lane_of, next_left, lane_over, same_from, same_more}
use Rattle.dr_plain.proofs.reclaiming.reclaim_lanes.Goals as goal

pub loop-handler-init : goal.loop-handler-init
loop-handler-init g c = let A = c.requires.lanes in let L = A.1 in (A.0, refl, L, out_all _ _ _ _ _ _ L.out, refl, (L.others, L.in_front), same_from _)

pub reclaim_lane-requires-clause-lane : goal.reclaim_lane-requires-clause-lane
reclaim_lane-requires-clause-lane g c =
    let inv = c.loop-handler.invariant in let L = inv.2 in let S = inv.6 in let k = c.args.plan.now in let h = c.loop-handler.handler in let own = c.index-own.result.now in
    let parts = c.index_mut-parts.result.now in let items : Vec (Token g.row.T.Denot) Global → List (Token g.row.T.Denot) = λ hand. hand.items in
    let lt : h < length c.args.counts.now.items = (let test = c.loop-handler-test.true in let len = c.len-handler-end.ensures in omega arith) in
    let count = L.handlers in let many = L.many in let same = S.count in let now_many = length-map c.loop-handler.hands.items items in
    let at_own = at_index c.args.counts.now.items h own lt c.index-own.ensures in
    let at_parts = at_index c.loop-handler.hands.items h parts (omega arith) c.index_mut-parts.ensures.value in
    let at_old = sym (S.same h (omega arith)) ∙ map_there items c.loop-handler.hands.items h parts at_parts in (
      handlers_of k - h,
      inv.0,
      lane_of k h own _ _ _ inv.0 _ _ parts.items _ inv.3 (omega arith) (L.places h parts.items at_old) (L.held h own parts.items at_own at_old)
          (next_left k h c.args.counts.now.items own _ _ _ inv.5.0 at_own inv.5.1),
    )

pub loop-handler-preserved : goal.loop-handler-preserved
loop-handler-preserved g c =
    let inv = c.loop-handler.invariant in let L = inv.2 in let k = c.args.plan.now in let h = c.loop-handler.handler in let own = c.index-own.result.now in
    let items : Vec (Token g.row.T.Denot) Global → List (Token g.row.T.Denot) = λ hand. hand.items in
    let lt : h < length c.args.counts.now.items = (let test = c.loop-handler-test.true in let len = c.len-handler-end.ensures in omega arith) in
    let at_own = at_index c.args.counts.now.items h own lt c.index-own.ensures in let back = c.reclaim_lane.ensures.back in
    let rest = all_left k (h + 1) (drop (h + 1) c.args.counts.now.items) c.args.first (drop c.args.first inv.0) in
    let over = lane_over k h own _ c.args.upto inv.0 _ _ _ inv.3.count (next_left k h c.args.counts.now.items own _ _ _ inv.5.0 at_own inv.5.1) c.reclaim_lane.ensures.hand in (
      inv.0,
      c.reclaim_lane.ensures.seat ∙ inv.1,
      L,
      out_less k _ c.args.upto _ _ inv.0 _ _ inv.3 back (omega arith),
      back.cells ∙ inv.4,
      (inv.5.0 ++ over.0, over.1 ∙ append_assoc rest inv.5.0 over.0),
      same_more h _ _ _ c.reclaim_lane.new.parts.items inv.6 (map-set items c.loop-handler.hands.items h c.reclaim_lane.new.parts),
    )
