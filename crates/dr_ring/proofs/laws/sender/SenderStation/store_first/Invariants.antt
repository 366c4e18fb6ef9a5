use Rattle.dr_ring.specs.declared.record.Step.TheVariants.{SenderStoresFirst}
use Rattle.dr_ring.specs.Inside.Seats.{Stores, SenderStoredFirst}
use Rattle.dr_ring.proofs.laws.sender.SenderStation.store_first.Given as goal

abbrev pub ghosts-store : goal.ghosts-store
ghosts-store g a = record { then = Stores (λ _ n. SenderStoresFirst g.J.Names.number n) (SenderStoredFirst g.J.Names.number) }
