use Rattle.dr_ring.specs.declared.record.Step.TheVariants.{ReceiverCompletes}
use Rattle.dr_ring.specs.Inside.Seats.{Stores, receiver_of, ReceiverCompleted}
use Rattle.dr_ring.proofs.laws.receiver.ReceiverStation.complete.Given as goal

abbrev pub ghosts-store : goal.ghosts-store
ghosts-store a = record { then = Stores (λ me n. ReceiverCompletes (receiver_of me.0).number n) ReceiverCompleted }
