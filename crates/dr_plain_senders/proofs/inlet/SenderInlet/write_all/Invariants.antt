use Rattle.dr_plain_senders.proofs.Sequel.{WroteFirst}
use Rattle.dr_plain_senders.proofs.inlet.SenderInlet.write_all.Given as goal

abbrev pub invariant-loop-k : goal.invariant-loop-k
invariant-loop-k g l = WroteFirst l.fn.self l.lo l.events l.k l.self
