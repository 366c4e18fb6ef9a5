use Rattle.std.proofs.Common.{◌≡◌, ◌++◌, take, drop}
use Rattle.dr_lent.proofs.slots.turn_by.Given as goal

abbrev pub invariant-loop-turns : goal.invariant-loop-turns
invariant-loop-turns g l = (l.seat.table_id ≡ l.fn.seat.table_id) × (l.seat.id ≡ l.fn.seat.id)
    × (l.seat.me ≡ (l.fn.seat.me.0, drop l.turns l.fn.seat.me.1 ++ take l.turns l.fn.seat.me.1))
