use Rattle.std.proofs.Common.{◌≡◌, ◌++◌, List, length}
use Rattle.dr_runs.proofs.Gathering.{Filled}
use Rattle.dr_c.specs.declared.end.End.{End}
use Rattle.dr_c.specs.Opening.{ends_in, has}
use Rattle.dr_c.proofs.opening.fill.Given as goal

abbrev pub invariant-loop-end : goal.invariant-loop-end
invariant-loop-end l = (seen : List End) × (l.ends.items ++ seen ≡ l.fn.ends.items)
    × Filled has l.ends.items seen l.fn.ends.items (ends_in l.handles)

abbrev pub decreases-loop-end : goal.decreases-loop-end
decreases-loop-end l = length l.ends.items
