use Rattle.dr_ring.proofs.laws.sender.SenderStation.finds_halt.Given as goal

abbrev pub ghosts-look_at_halt : goal.ghosts-look_at_halt
ghosts-look_at_halt a = record { number = a.more }
