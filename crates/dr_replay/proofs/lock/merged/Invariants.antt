use Rattle.dr_replay.proofs.lock.merged.Given as goal

-- the ledger of the blank
abbrev pub ghosts-report-L-Ledger : goal.ghosts-report-L-Ledger
ghosts-report-L-Ledger g a = record { name = a.blank.name; parts = a.blank.parts }

-- the history that comes behind the lock
abbrev pub ghosts-report-L-Exchange : goal.ghosts-report-L-Exchange
ghosts-report-L-Exchange g a = record { begun = a.recorded.history }
