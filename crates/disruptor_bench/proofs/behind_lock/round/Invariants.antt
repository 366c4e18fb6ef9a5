use Rattle.disruptor_bench.proofs.behind_lock.round.Given as goal

-- the ledger of the blank
abbrev pub ghosts-measured-L-Ledger : goal.ghosts-measured-L-Ledger
ghosts-measured-L-Ledger g a = record { name = a.blank.name; parts = a.blank.parts }

-- the history that comes behind the lock
abbrev pub ghosts-measured-L-Exchange : goal.ghosts-measured-L-Exchange
ghosts-measured-L-Exchange g a = record { begun = a.recorded.history }
