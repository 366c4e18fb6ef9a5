use Rattle.dr_runs.specs.Gathering.{Compares}
use Rattle.dr_ring.specs.Inside.Seats.{exchange}
use Rattle.dr_ring.proofs.laws.settling.compare.Given as goal

abbrev pub ghosts-load : goal.ghosts-load
ghosts-load a = record { then = Compares (exchange a.self.now.key) }
