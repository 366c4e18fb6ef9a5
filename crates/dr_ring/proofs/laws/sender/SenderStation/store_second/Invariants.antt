use Rattle.dr_ring.specs.declared.record.Step.TheVariants.{SenderStoresSecond}
use Rattle.dr_ring.specs.Inside.Seats.{Stores, SenderStoredSecond}
use Rattle.dr_ring.proofs.laws.sender.SenderStation.store_second.Given as goal

abbrev pub ghosts-store : goal.ghosts-store
ghosts-store a = record { then = Stores (λ _ n. SenderStoresSecond n) SenderStoredSecond }
