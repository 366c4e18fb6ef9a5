use Rattle.std.proofs.Common.{◌≡◌, ◌+◌, drop}
use Rattle.dr_drive.specs.Meaning.Commands.{handler_of}
use Rattle.dr_drive.proofs.commands.handler_of.Given as goal

abbrev pub invariant-loop-h : goal.invariant-loop-h
invariant-loop-h l = handler_of l.graph.names l.name ≡ l.h + handler_of (drop l.h l.graph.names) l.name
