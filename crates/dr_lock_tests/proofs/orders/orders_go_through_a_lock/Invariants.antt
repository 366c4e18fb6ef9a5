use Rattle.dr_lock_tests.proofs.orders.orders_go_through_a_lock.Given as goal

-- the ledger of the blank
abbrev pub ghosts-by_lock-L-Ledger : goal.ghosts-by_lock-L-Ledger
ghosts-by_lock-L-Ledger g a = record { name = a.blank.name; parts = a.blank.parts }

-- the history that comes behind the lock
abbrev pub ghosts-by_lock-L-Exchange : goal.ghosts-by_lock-L-Exchange
ghosts-by_lock-L-Exchange g a = record { begun = a.recorded.history }
