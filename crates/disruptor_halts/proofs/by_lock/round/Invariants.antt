use Rattle.disruptor_halts.proofs.by_lock.round.Given as goal

-- the ledger of the blank
abbrev pub ghosts-round_over-L-Ledger : goal.ghosts-round_over-L-Ledger
ghosts-round_over-L-Ledger g a = record { name = a.blank.name; parts = a.blank.parts }

-- the history that comes behind the lock
abbrev pub ghosts-round_over-L-Exchange : goal.ghosts-round_over-L-Exchange
ghosts-round_over-L-Exchange g a = record { begun = a.recorded.history }
