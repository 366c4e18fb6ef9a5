use Rattle.dr_plain.proofs.laws.receiver.ReceiverStation.look_round.Given as goal

abbrev pub ghosts-look_at_cursor : goal.ghosts-look_at_cursor
ghosts-look_at_cursor g a = record { number = a.room }
