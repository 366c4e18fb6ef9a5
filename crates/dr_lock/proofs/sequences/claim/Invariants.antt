use Rattle.std.proofs.Common.{◌≡◌, ◌++◌, replicate}
use Rattle.dr_lock.specs.Inside.Sequences.{just_claimed}
use Rattle.dr_lock.proofs.sequences.claim.Given as goal

abbrev pub invariant-loop : goal.invariant-loop
invariant-loop g l = l.list.items ≡ l.fn.list.items ++ replicate l.counter (just_claimed l.p)
