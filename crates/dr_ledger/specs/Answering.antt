-- What a batch, and a run, of a ledger stores and answers: `seen` and the others are its devices'.
use Rattle.std.specs.Prelude.{◌≡◌, ℕ, List, [], ◌++◌, Option, None, Some, Result, Ok, Err}
use Rattle.std.specs.Io.KnownBytes.{Appends}
use Rattle.dr_seq.specs.declared.event.Event.{Event}
use Rattle.dr_files.specs.Outcome.{AppendsFront}
use Rattle.dr_accounts.specs.Answers.{answers_to}
use Rattle.dr_operations.specs.Arriving.{to_come}
use Rattle.dr_operations.specs.declared.event_stream.EventStream.{EventStream}
use Rattle.dr_ledger.specs.declared.fault.LedgerFault.{LedgerFault}
use Rattle.dr_ledger.specs.declared.fault.LedgerFault.TheVariants as fault
use Rattle.dr_ledger.specs.declared.ledger.Ledger.{Ledger}
use Rattle.dr_journal.specs.Calls.Journals.{CrashLeaves}
use Rattle.dr_journal.specs.Calls.Parts.{device_of}
use Rattle.dr_ledger.specs.Standing.{Holds, IsAtWork, IsBeginning, StandsForThem, journal_of}

-- what the output has before and after
pub record Written : Type 0 where
  pub before : Option (List ℕ)
  pub after : Option (List ℕ)

-- the answers to these operations, which come behind others, are written whole
abbrev pub AreAnswered : Written → List Event → List Event → Type 0
AreAnswered written past events = Appends written.before written.after (answers_to past events)

-- of these answers a beginning is
abbrev pub AreCut : Written → List Event → List Event → Type 0
AreCut written past events = AppendsFront written.before written.after (answers_to past events)

-- a crash leaves the operations from before, and of those that came at least the ones that are answered, in their order
pub record IsKept (past answered came : List Event) (file : List ℕ) : Type 0 where
  pub more : List Event
  pub first : IsBeginning (answered ++ more) came
  pub stands : StandsForThem (past ++ (answered ++ more)) file

module _ {D : Type 0} (seen : D → List ℕ) (may_leave : D → List ℕ → Type 0) where
  -- where a ledger stopped, some operations are stored, and of those the first ones answered
  pub record Stopped (new : Ledger D) (written : Written) (past came : List Event) : Type 0 where
    pub answered : List Event
    pub stored : List Event
    pub in_order : IsBeginning answered stored
    pub first : IsBeginning stored came
    pub holds : Holds seen may_leave (journal_of new) (past ++ stored)
    pub wrote : AreAnswered written past answered

  -- where the output failed, what is stored is answered in part
  pub record Mute (new : Ledger D) (written : Written) (past came : List Event) : Type 0 where
    pub stored : List Event
    pub first : IsBeginning stored came
    pub holds : Holds seen may_leave (journal_of new) (past ++ stored)
    pub wrote : AreCut written past stored

  -- where a disk failed, the first operations are answered, and of the journal only an opening tells
  pub record Broken (new : Ledger D) (written : Written) (past came : List Event) : Type 0 where
    pub answered : List Event
    pub first : IsBeginning answered came
    pub wrote : AreAnswered written past answered
    -- a crash leaves what is answered
    pub kept : (file : List ℕ) → may_leave (device_of (journal_of new)) file → IsKept past answered came file

  -- what a run leaves of the operations that came: all of them, where it came to the input's end, to a bad record, or to a read that
  -- failed
  abbrev pub Leaves : {A : Type 0} → Result A LedgerFault → Ledger D → Written → List Event → List Event → Type 0
  Leaves (Err fault.Memory) new written past came = Stopped new written past came
  Leaves (Err fault.Full) new written past came = Stopped new written past came
  Leaves (Err fault.Write) new written past came = Mute new written past came
  Leaves (Err fault.Disk) new written past came = Broken new written past came
  Leaves other new written past came = IsAtWork seen may_leave new (past ++ came) × AreAnswered written past came

-- what came of an input whose bytes are known: all its operations, or those before its first bad record, or else the first ones
abbrev pub Came : {A : Type 0} → Result A LedgerFault → EventStream → Option (List ℕ) → List Event → Type 0
Came result stream None came = Unit {0}
Came (Ok done) stream (Some bytes) came = to_come stream bytes ≡ record { events = came; bad = None }
Came (Err (fault.BadRecord k)) stream (Some bytes) came = to_come stream bytes ≡ record { events = came; bad = Some k }
Came (Err other) stream (Some bytes) came = IsBeginning came (to_come stream bytes).events

-- a run: some operations came, are stored and are answered, and at each moment a crash left a beginning of them behind what was stored
-- before
pub record AnsweredAll {D : Type 0} (seen : D → List ℕ) (may_leave : D → List ℕ → Type 0) (moment : D → ℕ) (left_since : D → ℕ → List ℕ → Type 0) (result : Result (Unit {0}) LedgerFault) (old new : Ledger D) (written : Written) (stream : EventStream) (known : Option (List ℕ)) (past : List Event) : Type 0 where
  pub came : List Event
  pub leaves : Leaves seen may_leave result new written past came
  pub comes : Came result stream known came
  pub any_moment : CrashLeaves moment left_since (journal_of old) (journal_of new) (IsKept past [] came)
