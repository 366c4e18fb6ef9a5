use Rattle.dr_ring.specs.Inside.Seats.{Loads, ReceiverLoadedFirst}
use Rattle.dr_ring.proofs.laws.receiver.ReceiverStation.load_first.Given as goal

abbrev pub ghosts-load : goal.ghosts-load
ghosts-load a = record { then = Loads ReceiverLoadedFirst }
