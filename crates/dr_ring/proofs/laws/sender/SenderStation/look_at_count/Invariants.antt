use Rattle.dr_ring.specs.Inside.Seats.{Loads, SenderLookedAtCount}
use Rattle.dr_ring.proofs.laws.sender.SenderStation.look_at_count.Given as goal

abbrev pub ghosts-load : goal.ghosts-load
ghosts-load a = record { then = Loads SenderLookedAtCount }
