use Rattle.std.proofs.Common.{◌≡◌, replicate}
use Rattle.dr_plain_senders.specs.Inside.Rooms.{unmarked}
use Rattle.dr_plain_senders.proofs.rooms.marks_of.Given as goal

abbrev pub invariant-loop-made : goal.invariant-loop-made
invariant-loop-made l = l.marks.items ≡ replicate l.made (unmarked l.size)
