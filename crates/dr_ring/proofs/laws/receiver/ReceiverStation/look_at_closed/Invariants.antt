use Rattle.dr_ring.specs.Inside.Seats.{Loads, ReceiverLookedAtClosed}
use Rattle.dr_ring.proofs.laws.receiver.ReceiverStation.look_at_closed.Given as goal

abbrev pub ghosts-load : goal.ghosts-load
ghosts-load a = record { then = Loads ReceiverLookedAtClosed }
