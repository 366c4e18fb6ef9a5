-- What the handler does with an event: `seen`, `may_leave`, `moment`, `left_since` and `faults` are its device's.
use Rattle.std.specs.Prelude.{◌≡◌, ◌<◌, ℕ, map, Bool, true, false, Option, Some, None, IsSome, List, [], ◌∷◌, ◌++◌}
use Rattle.dr_journal.specs.Calls.Journals.{IsAtRest, IsBeforeOrAfter, IsTooLarge, StandsFor, CrashLeaves, file_of, records_of, faults_of}
use Rattle.dr_meaning.specs.Calls.Handling.{GoesThrough, Showing}
use Rattle.dr_journal.specs.declared.journal.Journal.{Journal}
use Rattle.dr_journal.specs.declared.fault.JournalFault.{JournalFault}
use Rattle.dr_journal.specs.declared.fault.JournalFault.TheVariants.{NoMemory, Failed, Full}

-- a handler's journal, the records that wait for the end of their batch, and its fault, if it has failed
pub record Writer (D : Type 0) : Type 0 where
  pub journal : Journal D
  pub waiting : List (List ℕ)
  pub fault : Option JournalFault

-- a file stands for the records from before and, behind them, the first of those that came
abbrev pub HasFirst : List (List ℕ) → List (List ℕ) → List ℕ → Type 0
HasFirst past came file = (first later : List (List ℕ)) × (came ≡ first ++ later) × StandsFor (past ++ first) file

module _ {D : Type 0} (seen : D → List ℕ) (may_leave : D → List ℕ → Type 0) (moment : D → ℕ) (left_since : D → ℕ → List ℕ → Type 0) (faults : D → ℕ) where
  -- a handler that had not failed is shown an event of this record
  pub record TakesRecord (old : Writer D) (bytes : List ℕ) (end : Bool) (new : Writer D) : Type 0 where
    -- as long as it does not fail, what its file stands for and what waits are, together, all that it was shown
    pub told : new.fault ≡ None → records_of seen new.journal ++ new.waiting ≡ records_of seen old.journal ++ (old.waiting ++ bytes ∷ [])
    -- and at the end of a batch nothing waits
    pub ended : new.fault ≡ None → end ≡ true → new.waiting ≡ []
    -- before that nothing is written: a batch is not split
    pub waits : end ≡ false → new.journal ≡ old.journal
    -- what is written is on the disk, and a crash leaves it
    pub rests : new.fault ≡ None → IsAtRest seen may_leave new.journal
    -- a crash leaves what the file stood for before, with all that it was shown or with no more
    pub any_moment : CrashLeaves moment left_since old.journal new.journal (IsBeforeOrAfter (records_of seen old.journal) (old.waiting ++ bytes ∷ []))
    -- where memory or room has failed it, the journal is at rest, with the records from before
    pub no_memory : new.fault ≡ Some NoMemory → IsAtRest seen may_leave new.journal × (records_of seen new.journal ≡ records_of seen old.journal)
    pub no_room : new.fault ≡ Some Full → IsAtRest seen may_leave new.journal × (records_of seen new.journal ≡ records_of seen old.journal)
    -- it fails only where the disk has failed since, or there was no room, or no memory
    pub failed : new.fault ≡ Some Failed → faults_of faults old.journal < faults_of faults new.journal
    pub full : new.fault ≡ Some Full → IsTooLarge (file_of seen old.journal) (old.waiting ++ bytes ∷ [])

  -- once it has failed it does nothing more
  pub record Journals (old : Writer D) (bytes : List ℕ) (end : Bool) (new : Writer D) : Type 0 where
    pub takes : old.fault ≡ None → TakesRecord old bytes end new
    pub silent : IsSome old.fault → new ≡ old

  -- how it goes from before an event to after it, of events that are their records
  abbrev pub journaled : Writer D → List ℕ → ℕ → Bool → Writer D → Type 0
  journaled old bytes s end new = Journals old bytes end new

  -- after any events and then one that is marked as an end, the journal of a handler that has not failed stands on the disk for all
  -- that it was shown
  abbrev pub KeepsAll : Type 0
  KeepsAll = (shown : List (Showing (List ℕ))) (marked : Showing (List ℕ)) (first last : Writer D) → marked.end ≡ true → GoesThrough journaled first (shown ++ marked ∷ []) last → last.fault ≡ None
      → IsAtRest seen may_leave last.journal × (records_of seen last.journal ≡ records_of seen first.journal ++ (first.waiting ++ (map (λ x. x.event) shown ++ marked.event ∷ [])))

  -- while a handler that had not failed is shown any events, a crash leaves what its file stood for and, behind that, the first of
  -- what waited and of what it was shown: nothing is lost, and nothing skipped
  abbrev pub OnlyAdds : Type 0
  OnlyAdds = (shown : List (Showing (List ℕ))) (first last : Writer D) → first.fault ≡ None → IsAtRest seen may_leave first.journal → GoesThrough journaled first shown last
      → CrashLeaves moment left_since first.journal last.journal (HasFirst (records_of seen first.journal) (first.waiting ++ map (λ x. x.event) shown))
