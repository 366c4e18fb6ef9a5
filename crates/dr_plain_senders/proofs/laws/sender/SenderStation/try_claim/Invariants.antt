use Rattle.dr_plain_senders.proofs.laws.sender.SenderStation.try_claim.Given as goal

abbrev pub ghosts-claim : goal.ghosts-claim
ghosts-claim g a = record { plan = a.self.now.plan; number = 0 }
