use Rattle.std.proofs.Common.{All, take}
use Rattle.dr_disruptor_lock.specs.Watching.{HasListed}
use Rattle.dr_disruptor_lock.proofs.comparing.first_unlike.Given as goal

abbrev pub invariant-loop-h : goal.invariant-loop-h
invariant-loop-h g l = All (HasListed l.events) (take l.h l.watchings)
