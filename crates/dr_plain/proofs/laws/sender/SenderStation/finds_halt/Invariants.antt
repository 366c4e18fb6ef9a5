use Rattle.dr_plain.proofs.laws.sender.SenderStation.finds_halt.Given as goal

abbrev pub ghosts-look_at_halt : goal.ghosts-look_at_halt
ghosts-look_at_halt g a = record { number = a.more }
