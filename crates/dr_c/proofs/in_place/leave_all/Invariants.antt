use Rattle.std.specs.Prelude.{◌-◌, ◌≤◌}
use Rattle.dr_c.specs.Slots.{HasClaimed, LeavesOfSeveral, OwnAreWritten}
use Rattle.dr_c.proofs.Slots.{Upto}
use Rattle.dr_c.proofs.in_place.leave_all.Given as goal

abbrev pub invariant-loop-sequence : goal.invariant-loop-sequence
invariant-loop-sequence l =
    Upto LeavesOfSeveral l.fn.sender l.lo l.sequence l.sender × HasClaimed l.sender × OwnAreWritten l.sender l.lo l.sequence × (l.sequence - l.lo ≤ l.upto - l.lo)
