use Rattle.dr_disruptor_lock.proofs.running.run_locked.Given as goal

-- the ledger of the blank
abbrev pub ghosts-run_over-L-Ledger : goal.ghosts-run_over-L-Ledger
ghosts-run_over-L-Ledger g a = record { name = a.blank.name; parts = a.blank.parts }

-- the history that comes behind the lock
abbrev pub ghosts-run_over-L-Exchange : goal.ghosts-run_over-L-Exchange
ghosts-run_over-L-Exchange g a = record { begun = a.recorded.history }
