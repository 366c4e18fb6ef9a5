use Rattle.std.proofs.Common.{◌≡◌, ◌≤◌, ◌-◌, length, drop}
use Rattle.std.specs.Prelude.{None, replicate}
use Rattle.dr_c.specs.Opening.{ends_in}
use Rattle.dr_c.proofs.opening.free_all.Given as goal

abbrev pub invariant-loop-left : goal.invariant-loop-left
invariant-loop-left l = (l.left ≤ length l.handles) × (length l.handles ≡ length l.fn.handles)
    × (drop l.left (ends_in l.handles) ≡ replicate (length l.handles - l.left) None)

abbrev pub decreases-loop-left : goal.decreases-loop-left
decreases-loop-left l = l.left
