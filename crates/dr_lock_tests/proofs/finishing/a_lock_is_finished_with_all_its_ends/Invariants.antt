use Rattle.dr_lock_tests.proofs.finishing.a_lock_is_finished_with_all_its_ends.Given as goal

-- the ledger of the blank
abbrev pub ghosts-by_two_ends-L-Ledger : goal.ghosts-by_two_ends-L-Ledger
ghosts-by_two_ends-L-Ledger g a = record { name = a.blank.name; parts = a.blank.parts }

-- the history that comes behind the lock
abbrev pub ghosts-by_two_ends-L-Exchange : goal.ghosts-by_two_ends-L-Exchange
ghosts-by_two_ends-L-Exchange g a = record { begun = a.recorded.history }
