use Rattle.disruptor_hostile.proofs.locking.tell_over.Given as goal

-- the ledger of the blank
abbrev pub ghosts-tell_with_room-L-Ledger : goal.ghosts-tell_with_room-L-Ledger
ghosts-tell_with_room-L-Ledger g a = record { name = a.blank.name; parts = a.blank.parts }

-- the history that comes behind the lock
abbrev pub ghosts-tell_with_room-L-Exchange : goal.ghosts-tell_with_room-L-Exchange
ghosts-tell_with_room-L-Exchange g a = record { begun = a.recorded.history }
