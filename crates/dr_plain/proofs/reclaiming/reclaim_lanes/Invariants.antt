use Rattle.std.proofs.Common.{◌≡◌, ◌-◌, ◌++◌, List, map, drop}
use Rattle.dr_lent.specs.Rows.{cells_of}
use Rattle.dr_lent.specs.declared.lent.Lent.{Lent}
use Rattle.dr_plain.specs.Meaning.Shape.{handlers_of}
use Rattle.dr_plain.specs.Inside.Seats.{Hand}
use Rattle.dr_plain.specs.Inside.Finishing.{all_left, AreOut, AreLanes}
use Rattle.dr_plain.proofs.Returning.{SameFrom}
use Rattle.dr_plain.proofs.reclaiming.reclaim_lanes.Given as goal

abbrev pub invariant-loop-handler : goal.invariant-loop-handler
invariant-loop-handler g l = (lents : List (Lent g.row.T.Denot)) × (l.seat.table_id ≡ l.fn.seat.table_id)
    × AreLanes l.plan l.counts.items l.first l.upto lents l.fn.seat.me.1 (map (λ hand. hand.items) l.fn.hands.items) l.fn.tokens.items
    × AreOut l.plan l.first l.upto (handlers_of l.plan - l.handler) lents l.tokens.items
    × (cells_of l.tokens.items ≡ cells_of l.fn.tokens.items)
    × ((others : Hand g.row.T.Denot) × (l.seat.me.1 ≡ all_left l.plan l.handler (drop l.handler l.counts.items) l.first (drop l.first lents) ++ others))
    × SameFrom l.handler (map (λ hand. hand.items) l.fn.hands.items) (map (λ hand. hand.items) l.hands.items)
