use Rattle.std.proofs.Common.{◌≡◌, ◌≤◌}
use Rattle.dr_plain.specs.Inside.Finishing.{TakesLane, OnePartBack}
use Rattle.dr_plain.proofs.Returning.{Untouched}
use Rattle.dr_plain.proofs.reclaiming.reclaim_lane.Given as goal

abbrev pub invariant-loop-sequence : goal.invariant-loop-sequence
invariant-loop-sequence g l = (l.seat.table_id ≡ l.fn.seat.table_id) × (l.first ≤ l.sequence)
    × TakesLane l.plan l.handler l.counts l.first l.upto l.sequence l.fn.seat.me.1 l.seat.me.1
    × Untouched l.plan l.first l.sequence l.fn.parts.items l.parts.items × OnePartBack l.plan l.first l.sequence l.fn.tokens.items l.tokens.items
