use Rattle.dr_ring.specs.Inside.Seats.{Loads, SenderLookedAtHalt}
use Rattle.dr_ring.proofs.laws.sender.SenderStation.look_at_halt.Given as goal

abbrev pub ghosts-load : goal.ghosts-load
ghosts-load g a = record { then = Loads (SenderLookedAtHalt g.J.Names.number) }
