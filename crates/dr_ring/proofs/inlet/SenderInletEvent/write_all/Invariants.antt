use Rattle.dr_ring.proofs.Writings.{WroteFirst}
use Rattle.dr_ring.proofs.inlet.SenderInletEvent.write_all.Given as goal

abbrev pub invariant-loop-k : goal.invariant-loop-k
invariant-loop-k l = WroteFirst l.fn.self l.lo l.events l.k l.self
