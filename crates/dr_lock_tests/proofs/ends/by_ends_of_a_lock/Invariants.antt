use Rattle.dr_lock_tests.proofs.ends.by_ends_of_a_lock.Given as goal

-- the ledger of the blank
abbrev pub ghosts-by_ends-L-Ledger : goal.ghosts-by_ends-L-Ledger
ghosts-by_ends-L-Ledger g a = record { name = a.blank.name; parts = a.blank.parts }

-- the history that comes behind the lock
abbrev pub ghosts-by_ends-L-Exchange : goal.ghosts-by_ends-L-Exchange
ghosts-by_ends-L-Exchange g a = record { begun = a.recorded.history }
