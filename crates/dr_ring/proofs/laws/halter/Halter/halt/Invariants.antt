use Rattle.dr_ring.specs.declared.record.Step.TheVariants.{HalterHalts}
use Rattle.dr_ring.specs.Inside.Seats.{Stores, HalterHalted}
use Rattle.dr_ring.proofs.laws.halter.Halter.halt.Given as goal

abbrev pub ghosts-store : goal.ghosts-store
ghosts-store a = record { then = Stores (λ _ _. HalterHalts) HalterHalted }
