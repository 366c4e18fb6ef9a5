use Rattle.example_lock.proofs.count.Given as goal

-- the ledger of the blank
abbrev pub ghosts-run-L-Ledger : goal.ghosts-run-L-Ledger
ghosts-run-L-Ledger g a = record { name = a.blank.name; parts = a.blank.parts }

-- the history that comes behind the lock
abbrev pub ghosts-run-L-Exchange : goal.ghosts-run-L-Exchange
ghosts-run-L-Exchange g a = record { begun = a.recorded.history }
