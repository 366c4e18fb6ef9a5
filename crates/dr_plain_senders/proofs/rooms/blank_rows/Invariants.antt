use Rattle.dr_plain_senders.specs.Inside.Rooms.{AreBlankRows}
use Rattle.dr_plain_senders.proofs.rooms.blank_rows.Given as goal

abbrev pub invariant-loop-row : goal.invariant-loop-row
invariant-loop-row g l = AreBlankRows l.row l.size l.rows.items
