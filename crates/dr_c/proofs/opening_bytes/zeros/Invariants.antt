use Rattle.std.proofs.Common.{◌≡◌, replicate}
use Rattle.dr_c.proofs.opening_bytes.zeros.Given as goal

abbrev pub invariant-loop-made : goal.invariant-loop-made
invariant-loop-made l = l.events.items ≡ replicate l.made (replicate l.fn.bytes 0)
