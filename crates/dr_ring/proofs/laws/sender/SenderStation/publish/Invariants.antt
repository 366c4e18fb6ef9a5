use Rattle.dr_ring.specs.declared.record.Step.TheVariants.{SenderPublishes}
use Rattle.dr_ring.specs.Inside.Seats.{Stores, SenderPublished}
use Rattle.dr_ring.proofs.laws.sender.SenderStation.publish.Given as goal

abbrev pub ghosts-store : goal.ghosts-store
ghosts-store a = record { then = Stores (λ _ n. SenderPublishes n) SenderPublished }
