use Rattle.std.proofs.Common.{drop}
use Rattle.dr_meaning.specs.Meaning.Machine.{Setup, State, opening}
use Rattle.dr_lock.specs.Inside.Sequences.{Follows}
use Rattle.dr_lock.proofs.Following.{Passed}
use Rattle.dr_lock.proofs.sequences.sequences.Given as goal

abbrev pub invariant-loop-entry : goal.invariant-loop-entry
invariant-loop-entry g l = (c : Setup) (end : State g.row.E.Denot) → Follows c (opening c) l.entries end → Passed c l.list.items (drop l.entry-index l.entries) end
