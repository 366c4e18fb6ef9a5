use Rattle.std.proofs.Common.{◌≡◌, ◌+◌, drop}
use Rattle.dr_meaning.specs.Meaning.Runs.{needed}
use Rattle.dr_core.proofs.runs.room_for.Given as goal

abbrev pub invariant-loop-command : goal.invariant-loop-command
invariant-loop-command g l = l.room + needed (drop l.command-index l.commands) l.size ≡ needed l.commands l.size
