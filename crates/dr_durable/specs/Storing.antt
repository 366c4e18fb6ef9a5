-- What the handler of a run that journals has stored: `seen`, `may_leave`, `moment` and `left_since` are its device's.
use Rattle.std.specs.Prelude.{◌≡◌, ℕ, List, [], ◌++◌, map, None}
use Rattle.dr_meaning.specs.Calls.Handling.{GoesThrough, Relation}
use Rattle.dr_workers.specs.Meaning.Work.{Dealt, dealt_events, shown_of}
use Rattle.dr_journal.specs.Calls.Handling.{HasFirst, Writer}
use Rattle.dr_journal.specs.Calls.Journals.{CrashLeaves, IsAtRest, records_of}
use Rattle.dr_journal.specs.declared.journal.Journal.{Journal}

module _ {D : Type 0} (seen : D → List ℕ) (may_leave : D → List ℕ → Type 0) where
  -- a handler was shown nothing yet, and has a journal at rest
  pub record IsFresh (writer : Writer D) : Type 0 where
    pub well : writer.fault ≡ None
    pub idle : writer.waiting ≡ []
    pub at_rest : IsAtRest seen may_leave writer.journal

  -- a journal stands on the disk for what an earlier one stood for, and these records behind that
  pub record Stores (before now : Journal D) (records : List (List ℕ)) : Type 0 where
    pub at_rest : IsAtRest seen may_leave now
    pub stored : records_of seen now ≡ records_of seen before ++ records

  module _ (moment : D → ℕ) (left_since : D → ℕ → List ℕ → Type 0) {A E : Type 0} (writer_of : A → Writer D) (record_of : E → List ℕ)
      (goes : Relation E A) where
    -- the records of the events of batches
    abbrev pub records_in : List (Dealt E) → List (List ℕ)
    records_in batches = map record_of (dealt_events batches)

    -- when a handler had gone through the first of its batches and had not failed, its journal stood on the disk for all their events;
    -- and whatever came later, each crash left these and, behind them, the first of the other batches' events
    pub record HadStored (start after : A) (front rest : List (Dealt E)) : Type 0 where
      pub between : A
      pub through : GoesThrough goes start (shown_of front) between
      pub later : GoesThrough goes between (shown_of rest) after
      pub stores : (writer_of between).fault ≡ None → Stores (writer_of start).journal (writer_of between).journal (records_in front)
      pub any_moment : (writer_of between).fault ≡ None
          → CrashLeaves moment left_since (writer_of between).journal (writer_of after).journal
          (HasFirst (records_of seen (writer_of start).journal ++ records_in front) (records_in rest))
