use Rattle.std.proofs.Common.{◌≡◌, ◌+◌, ◌-◌, ◌%◌, ◌<◌, ◌++◌, [], suc, ℕ, List, Vec, Global, map, length, set, drop, arith, refl, sym, ap, ◌∙◌, subst}
use Rattle.std.proofs.Math.Nat.{mod-lt}
use Rattle.std.proofs.lemmas.List.{map-set, length-map}
use Rattle.dr_cells.specs.declared.token.Token.{Token}
use Rattle.dr_seq.proofs.Sizes.{size_positive}
use Rattle.dr_runs.proofs.Elements.{at_index}
use Rattle.dr_runs.proofs.Lists.{map_there}
use Rattle.dr_runs.specs.declared.counts.HandlerCounts.{HandlerCounts}
use Rattle.dr_lent.proofs.Tokens.{regained_is}
use Rattle.dr_lent.specs.Slots.{is_in_hand}
use Rattle.dr_plain_senders.specs.Meaning.Words.{slot_of, cell_of}
use Rattle.dr_plain_senders.specs.Inside.Finishing.{parts_left, SameBut}
use Rattle.dr_plain_senders.proofs.Returning.{same_but_none, taking_none, may_draw, part_drawn, may_join, taking_next, but_next, SameRows, rows_next, drop_past}
use Rattle.dr_plain_senders.proofs.reclaiming.reclaim_parts.Goals as goal

pub loop-handler-init : goal.loop-handler-init
loop-handler-init g c =
    (refl, taking_none c.args.plan.now c.args.counts.now.items c.args.sequence c.args.kept.now _ c.requires.counts, same_but_none _ _, λ j le. refl)

pub draw-part-requires-clause-place : goal.draw-part-requires-clause-place
draw-part-requires-clause-place g c =
    let k = c.args.plan.now in
    let q = c.args.sequence in
    let h = c.loop-handler.handler in
    let parts = c.index_mut-parts.result.now in
    let inv = c.loop-handler.invariant in
    let items : Vec (Token g.row.T.Denot) Global → List (Token g.row.T.Denot) = λ hand. hand.items in
    let lt : h < length c.args.counts.now.items = (let test = c.loop-handler-test.true in let len = c.len-handler-end.ensures in omega arith) in
    let size = c.get.ensures.value ∙ c.size.ensures in let positive = size_positive c.get.result c.get.ensures.size in
    let inside : q % k.size < k.size = mod-lt q (omega arith) in
    let place : c.slot-place.result ≡ q % k.size = c.slot-place.ensures ∙ ap (λ (n : ℕ). q % n) c.size-2.ensures in
    let many = inv.2.count in let all = c.requires.hands.count in let counted = c.requires.counts in let long = length-map c.loop-handler.hands.items items in
    let at = map_there items c.loop-handler.hands.items h parts (at_index c.loop-handler.hands.items h parts (omega arith) c.index_mut-parts.ensures.value) in
    let wide = c.requires.hands.each h parts.items (sym (inv.3 h (omega arith)) ∙ at) in omega arith

pub draw-part-requires-clause-slot : goal.draw-part-requires-clause-slot
draw-part-requires-clause-slot g c =
    let k = c.args.plan.now in
    let q = c.args.sequence in
    let h = c.loop-handler.handler in
    let own = c.index.result.now in
    let P = c.requires.parts in
    let inv = c.loop-handler.invariant in
    let lt : h < length c.args.counts.now.items = (let test = c.loop-handler-test.true in let len = c.len-handler-end.ensures in omega arith) in
    let at_own = at_index c.args.counts.now.items h own lt c.index.ensures in
    let held = c.is_in_hand-held.ensures ∙ ap (λ (n : ℕ). is_in_hand own (q - n)) (c.get.ensures.value ∙ c.size.ensures) in
    let lane : h + 1 ≡ suc h = omega arith in let slot = c.slot-slot.ensures.place ∙ ap (λ (n : ℕ). slot_of k n q) lane in
    may_draw k c.args.counts.now.items q _ _ h own _ _ inv.1 at_own c.is_in_hand-held.result c.slot-slot.result P.0 P.1 P.2 P.3 held slot

pub join-requires : goal.join-requires
join-requires g c =
    let k = c.args.plan.now in
    let q = c.args.sequence in
    let h = c.loop-handler.handler in
    let own = c.index.result.now in
    let P = c.requires.parts in
    let inv = c.loop-handler.invariant in
    let parts = c.index_mut-parts.result.now in let items : Vec (Token g.row.T.Denot) Global → List (Token g.row.T.Denot) = λ hand. hand.items in
    let lt : h < length c.args.counts.now.items = (let test = c.loop-handler-test.true in let len = c.len-handler-end.ensures in omega arith) in
    let at_own = at_index c.args.counts.now.items h own lt c.index.ensures in
    let held = c.is_in_hand-held.ensures ∙ ap (λ (n : ℕ). is_in_hand own (q - n)) (c.get.ensures.value ∙ c.size.ensures) in
    let place : c.slot-place.result ≡ q % k.size = c.slot-place.ensures ∙ ap (λ (n : ℕ). q % n) c.size-2.ensures in
    let many = inv.2.count in let all = c.requires.hands.count in let counted = c.requires.counts in let long = length-map c.loop-handler.hands.items items in
    let at = map_there items c.loop-handler.hands.items h parts (at_index c.loop-handler.hands.items h parts (omega arith) c.index_mut-parts.ensures.value) in
    let part = part_drawn k c.args.counts.now.items q _ _ h own _ _ inv.1 at_own c.is_in_hand-held.result
    c.slot-slot.result c.slot-place.result _ _ _ c.draw-part.result P.0 P.1 P.2 P.3 held place
    (λ is. P.4 h own parts.items at_own (sym (inv.3 h (omega arith)) ∙ at) is) c.draw-part.ensures.drawn in
    may_join k c.args.counts.now.items q _ _ h own _ c.loop-handler.kept inv.1 at_own c.draw-part.result P.0 P.1 P.2 P.3 lt part

pub loop-handler-preserved : goal.loop-handler-preserved
loop-handler-preserved g c =
    let k = c.args.plan.now in
    let q = c.args.sequence in
    let h = c.loop-handler.handler in
    let own = c.index.result.now in
    let inv = c.loop-handler.invariant in
    let parts = c.index_mut-parts.result.now in let items : Vec (Token g.row.T.Denot) Global → List (Token g.row.T.Denot) = λ hand. hand.items in
    let lt : h < length c.args.counts.now.items = (let test = c.loop-handler-test.true in let len = c.len-handler-end.ensures in omega arith) in
    let at_own = at_index c.args.counts.now.items h own lt c.index.ensures in
    let held = c.is_in_hand-held.ensures ∙ ap (λ (n : ℕ). is_in_hand own (q - n)) (c.get.ensures.value ∙ c.size.ensures) in
    let place : c.slot-place.result ≡ q % k.size = c.slot-place.ensures ∙ ap (λ (n : ℕ). q % n) c.size-2.ensures in
    let many = inv.2.count in let all = c.requires.hands.count in let counted = c.requires.counts in let long = length-map c.loop-handler.hands.items items in
    let at = map_there items c.loop-handler.hands.items h parts (at_index c.loop-handler.hands.items h parts (omega arith) c.index_mut-parts.ensures.value) in
    let rows = map items c.loop-handler.hands.items in let was = map items c.args.hands.now.items in
    let put = map-set items c.loop-handler.hands.items h c.draw-part.new.parts in
    let after : List (List (Token g.row.T.Denot)) = set rows h c.draw-part.new.parts.items in (
      c.draw-part.ensures.seat ∙ inv.0,
      taking_next k c.args.counts.now.items q _ _ h own _ _ inv.1 at_own c.is_in_hand-held.result
          c.slot-slot.result c.slot-place.result _ _ _ c.draw-part.result c.join.new.self held
          c.draw-part.ensures.drawn c.join.ensures,
      subst (λ (x : ℕ × List (List (Token g.row.T.Denot))). SameBut x.0 was x.1) (λ i. (place i, sym put i))
          (but_next c.is_in_hand-held.result h c.slot-slot.result c.slot-place.result was rows _ _ parts.items c.draw-part.new.parts.items c.draw-part.result
          (subst (λ (n : ℕ). SameBut n was rows) (sym place) inv.2) inv.3 at c.draw-part.ensures.drawn),
      subst (λ (x : List (List (Token g.row.T.Denot))). SameRows (h + 1) was x) (sym put) (rows_next h was rows c.draw-part.new.parts.items inv.3),
    )

pub returns-clause-back : goal.returns-clause-back
returns-clause-back g c l others is front =
    let k = c.args.plan.now in
    let q = c.args.sequence in
    let h = c.loop-handler.handler in
    let counts = c.args.counts.now.items in
    let inv = c.loop-handler.invariant in
    let over = c.loop-handler-test.false in let end = c.loop-handler.auto.handler-end in let len = c.len-handler-end.ensures in
    let G = inv.1 l others is front in let none : drop h counts ≡ [] = drop_past counts h (omega arith) in (
      regained_is k.strip (cell_of k q) c.loop-handler.kept c.regain.new.self (length counts - h) l G.2 c.regain.ensures,
      (G.0, G.1 ∙ ap (λ (cs : List HandlerCounts). parts_left k h cs q l ++ (others ++ G.0)) none),
    )
