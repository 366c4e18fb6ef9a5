use Rattle.dr_ring.specs.declared.record.Step.TheVariants.{SenderCloses}
use Rattle.dr_ring.specs.Inside.Seats.{Stores, SenderClosed}
use Rattle.dr_ring.proofs.laws.sender.SenderStation.close.Given as goal

abbrev pub ghosts-store : goal.ghosts-store
ghosts-store a = record { then = Stores (λ _ _. SenderCloses) SenderClosed }
