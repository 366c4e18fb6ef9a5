-- What one batch does, in its parts.
use Rattle.std.specs.Prelude.{◌≡◌, ◌⊎◌, ◌+◌, ℕ, Bool, true, false, List, [], ◌++◌, Option, None, Some, Result, Ok, Err}
use Rattle.dr_seq.specs.declared.event.Event.{Event}
use Rattle.dr_journal.specs.Calls.Journals.{IsAtRest, CrashLeaves}
use Rattle.dr_journal.specs.declared.journal.Journal.{Journal}
use Rattle.dr_accounts.specs.declared.responder.Responder.{Responder}
use Rattle.dr_operations.specs.Arriving.{behind, to_come}
use Rattle.dr_operations.specs.declared.event_stream.EventStream.{EventStream}
use Rattle.dr_ledger.specs.declared.fault.LedgerFault.{LedgerFault}
use Rattle.dr_ledger.specs.declared.fault.LedgerFault.TheVariants as fault
use Rattle.dr_ledger.specs.declared.ledger.Ledger.{Ledger}
use Rattle.dr_ledger.specs.Answering.{AreAnswered, AreCut, IsKept, Leaves, Written}
use Rattle.dr_ledger.specs.Standing.{Copies, HasBooked, Holds, IsBeginning, journal_of, replica_of}

module _ {D : Type 0} (seen : D → List ℕ) (may_leave : D → List ℕ → Type 0) where
  abbrev pub IsCopyAtRest : Option (Journal D) → Type 0
  IsCopyAtRest None = Unit {0}
  IsCopyAtRest (Some replica) = IsAtRest seen may_leave replica

  -- a ledger's journal and its replica are at rest
  pub record AreAtRest (ledger : Ledger D) : Type 0 where
    pub journal : IsAtRest seen may_leave (journal_of ledger)
    pub replica : IsCopyAtRest (replica_of ledger)

  -- a batch that is stored stands behind what the journal and the replica stood for; one that is refused stands in the journal or not
  abbrev pub Stores : {A : Type 0} → Result A LedgerFault → Ledger D → List Event → List Event → Type 0
  Stores (Ok done) new past events = Holds seen may_leave (journal_of new) (past ++ events) × Copies seen may_leave (replica_of new) (past ++ events)
  Stores (Err fault.Memory) new past events = Holds seen may_leave (journal_of new) past ⊎ Holds seen may_leave (journal_of new) (past ++ events)
  Stores (Err fault.Full) new past events = Holds seen may_leave (journal_of new) past ⊎ Holds seen may_leave (journal_of new) (past ++ events)
  Stores (Err fault.Disk) new past events = Unit {0}
  Stores (Err other) new past events = ⊥

  -- a batch leaves what a run of it leaves, and is at fault in no record and no read
  abbrev pub Takes : {A : Type 0} → Result A LedgerFault → Ledger D → Written → List Event → List Event → Type 0
  Takes (Err (fault.BadRecord k)) new written past events = ⊥
  Takes (Err fault.Read) new written past events = ⊥
  Takes result new written past events = Leaves seen may_leave result new written past events

-- a batch that is booked is answered whole, or in part where the output fails, or not at all
abbrev pub Replies : {A : Type 0} → Result A LedgerFault → Responder → Written → List Event → List Event → Type 0
Replies (Ok done) new written past events = HasBooked new (past ++ events) × AreAnswered written past events
Replies (Err fault.Memory) new written past events = AreAnswered written past []
Replies (Err fault.Write) new written past events = AreCut written past events
Replies (Err other) new written past events = ⊥

-- what a turn read of an input whose bytes are known: some operations, after which more may come, or the last ones
abbrev pub TurnCame : Result Bool LedgerFault → EventStream → EventStream → Option (List ℕ) → Option (List ℕ) → List Event → Type 0
TurnCame result old new None left came = Unit {0}
TurnCame (Ok true) old new (Some bytes) None came = ⊥
TurnCame (Ok true) old new (Some bytes) (Some left) came = to_come old bytes ≡ behind came (to_come new left)
TurnCame (Ok false) old new (Some bytes) left came = to_come old bytes ≡ record { events = came; bad = None }
TurnCame (Err (fault.BadRecord k)) old new (Some bytes) left came = to_come old bytes ≡ record { events = came; bad = Some k }
TurnCame (Err other) old new (Some bytes) left came = IsBeginning came (to_come old bytes).events

-- a write that failed is answered as such, and no other fault is one
abbrev pub CountsWrites : {A : Type 0} → Result A LedgerFault → ℕ → ℕ → Type 0
CountsWrites (Err fault.Write) writes writes2 = writes2 ≡ writes + 1
CountsWrites other writes writes2 = writes2 ≡ writes

-- a read or a write that failed is answered as such, and no other fault is one
abbrev pub CountsTurns : {A : Type 0} → Result A LedgerFault → ℕ → ℕ → ℕ → ℕ → Type 0
CountsTurns (Err fault.Read) reads reads2 writes writes2 = (reads2 ≡ reads + 1) × (writes2 ≡ writes)
CountsTurns (Err fault.Write) reads reads2 writes writes2 = (reads2 ≡ reads) × (writes2 ≡ writes + 1)
CountsTurns other reads reads2 writes writes2 = (reads2 ≡ reads) × (writes2 ≡ writes)

-- a read that failed is told as such, and what is told is a fault of reading
abbrev pub CountsReads : {A : Type 0} → Result A LedgerFault → ℕ → ℕ → Type 0
CountsReads (Ok done) reads reads2 = reads2 ≡ reads
CountsReads (Err fault.Read) reads reads2 = reads2 ≡ reads + 1
CountsReads (Err fault.Memory) reads reads2 = reads2 ≡ reads
CountsReads (Err (fault.BadRecord k)) reads reads2 = reads2 ≡ reads
CountsReads (Err other) reads reads2 = ⊥

-- the faults of storing
abbrev pub IsOfStore : LedgerFault → Type 0
IsOfStore fault.Memory = Unit {0}
IsOfStore fault.Disk = Unit {0}
IsOfStore fault.Full = Unit {0}
IsOfStore other = ⊥

-- the faults of answering
abbrev pub IsOfAnswer : LedgerFault → Type 0
IsOfAnswer fault.Memory = Unit {0}
IsOfAnswer fault.Write = Unit {0}
IsOfAnswer other = ⊥

-- the faults of a batch
abbrev pub IsOfBatch : LedgerFault → Type 0
IsOfBatch (fault.BadRecord k) = ⊥
IsOfBatch fault.Read = ⊥
IsOfBatch other = Unit {0}

-- a turn: some operations came, are stored and are answered, and at each moment a crash left a beginning of them behind what was stored
-- before
pub record Turned {D : Type 0} (seen : D → List ℕ) (may_leave : D → List ℕ → Type 0) (moment : D → ℕ) (left_since : D → ℕ → List ℕ → Type 0) (result : Result Bool LedgerFault) (old new : Ledger D) (written : Written) (stream after : EventStream) (known left : Option (List ℕ)) (past : List Event) : Type 0 where
  pub came : List Event
  pub leaves : Leaves seen may_leave result new written past came
  pub comes : TurnCame result stream after known left came
  pub any_moment : CrashLeaves moment left_since (journal_of old) (journal_of new) (IsKept past [] came)
