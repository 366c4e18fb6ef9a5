use Rattle.dr_plain_senders.proofs.receiver.Receiver.complete.Given as goal

abbrev pub ghosts-complete : goal.ghosts-complete
ghosts-complete g a = record { plan = a.self.now.plan; number = 0 }
