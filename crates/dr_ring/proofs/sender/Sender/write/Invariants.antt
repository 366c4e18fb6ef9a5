use Rattle.dr_ring.proofs.sender.Sender.write.Given as goal

abbrev pub ghosts-store_first : goal.ghosts-store_first
ghosts-store_first a = record { number = a.sequence }
