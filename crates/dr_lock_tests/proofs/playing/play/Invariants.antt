use Rattle.dr_lock_tests.proofs.playing.play.Given as goal

-- the ledger of the blank
abbrev pub ghosts-play_in-L-Ledger : goal.ghosts-play_in-L-Ledger
ghosts-play_in-L-Ledger g a = record { name = a.blank.name; parts = a.blank.parts }

-- the history that comes behind the lock
abbrev pub ghosts-play_in-L-Exchange : goal.ghosts-play_in-L-Exchange
ghosts-play_in-L-Exchange g a = record { begun = a.recorded.history }
