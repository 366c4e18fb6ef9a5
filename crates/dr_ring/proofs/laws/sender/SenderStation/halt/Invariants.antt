use Rattle.dr_ring.specs.declared.record.Step.TheVariants.{SenderHalts}
use Rattle.dr_ring.specs.Inside.Seats.{Stores, SenderHalted}
use Rattle.dr_ring.proofs.laws.sender.SenderStation.halt.Given as goal

abbrev pub ghosts-store : goal.ghosts-store
ghosts-store a = record { then = Stores (λ _ _. SenderHalts) SenderHalted }
