-- A turn in a run.
use Rattle.std.proofs.Common.{ℕ, Bool, true, false, List, [], ◌++◌, Option, Ok, Err}
use Rattle.std.proofs.KnownBytes.{Appends-nil}
use Rattle.dr_seq.specs.declared.event.Event.{Event}
use Rattle.dr_journal.specs.Calls.Journals.{CrashLeaves}
use Rattle.dr_journal.specs.Calls.Parts.{device_of}
use Rattle.dr_operations.specs.declared.event_stream.EventStream.{EventStream}
use Rattle.dr_ledger.specs.Batches.{Takes, Turned}
use Rattle.dr_ledger.specs.Answering.{AnsweredAll, IsKept, Leaves, Written}
use Rattle.dr_ledger.specs.Standing.{IsAtWork, journal_of}
use Rattle.dr_ledger.specs.declared.fault.LedgerFault.{LedgerFault}
use Rattle.dr_ledger.specs.declared.fault.LedgerFault.TheVariants as fault
use Rattle.dr_ledger.specs.declared.ledger.Ledger.{Ledger}
use Rattle.dr_ledger.proofs.Batches.{rests, still_at_work}
use Rattle.dr_ledger.proofs.Moments.{moments_on}
use Rattle.dr_ledger.proofs.Runs.{comes_on, comes_to_a_fault, comes_to_its_end, comes_so_far, leaves_on, nothing_came}
use Rattle.dr_ledger.proofs.Starts.{no_moments}

-- what a batch leaves, as a turn
pub taken : (A B : Type 0) {D : Type 0} (seen : D → List ℕ) (may_leave : D → List ℕ → Type 0) (e : LedgerFault) (new : Ledger D) (written : Written) (past events : List Event)
    → Takes seen may_leave {A = A} (Err e) new written past events → Leaves seen may_leave {A = B} (Err e) new written past events
taken A B seen may_leave (fault.BadRecord k) new written past events takes = absurd takes
taken A B seen may_leave fault.Read new written past events takes = absurd takes
taken A B seen may_leave fault.Memory new written past events takes = takes
taken A B seen may_leave fault.Write new written past events takes = takes
taken A B seen may_leave fault.Disk new written past events takes = takes
taken A B seen may_leave fault.Full new written past events takes = takes

same_leaves : (A B : Type 0) {D : Type 0} (seen : D → List ℕ) (may_leave : D → List ℕ → Type 0) (e : LedgerFault) (new : Ledger D) (written : Written) (past events : List Event)
    → Leaves seen may_leave {A = A} (Err e) new written past events → Leaves seen may_leave {A = B} (Err e) new written past events
same_leaves A B seen may_leave (fault.BadRecord k) new written past events is = is
same_leaves A B seen may_leave fault.Read new written past events is = is
same_leaves A B seen may_leave fault.Memory new written past events is = is
same_leaves A B seen may_leave fault.Write new written past events is = is
same_leaves A B seen may_leave fault.Disk new written past events is = is
same_leaves A B seen may_leave fault.Full new written past events is = is

module _ {D : Type 0} (seen : D → List ℕ) (may_leave : D → List ℕ → Type 0) (moment : D → ℕ) (left_since : D → ℕ → List ℕ → Type 0) where
  -- no call on the disk
  pub unmoved : ((file : D) (c : List ℕ) → left_since file (moment file) c → may_leave file c) → (ledger : Ledger D) (past : List Event)
      → IsAtWork seen may_leave ledger past
      → CrashLeaves moment left_since (journal_of ledger) (journal_of ledger) (IsKept past [] [])
  unmoved only_now ledger past work = no_moments seen may_leave moment left_since only_now (journal_of ledger) past [] work.journal

  -- before the first turn
  pub begun : ((file : D) (c : List ℕ) → left_since file (moment file) c → may_leave file c)
      → (ledger : Ledger D) (known left : Option (List ℕ)) (stream : EventStream) (past : List Event) → IsAtWork seen may_leave ledger past
      → Turned seen may_leave moment left_since (Ok true) ledger ledger (record { before = known; after = known }) stream stream left left past
  begun only_now ledger known left stream past work = record {
    came = [];
    leaves = (still_at_work seen may_leave ledger past work, Appends-nil known);
    comes = nothing_came stream left;
    any_moment = unmoved only_now ledger past work;
  }

  module _ (old mid new : Ledger D) (a b c : Option (List ℕ)) (s t u : EventStream) (k l m : Option (List ℕ)) (past : List Event) where
    module _ (first : Turned seen may_leave moment left_since (Ok true) old mid (record { before = a; after = b }) s t k l past) where
      moments : (more : List Event) → CrashLeaves moment left_since (journal_of mid) (journal_of new) (IsKept (past ++ first.came) [] more)
          → CrashLeaves moment left_since (journal_of old) (journal_of new) (IsKept past [] (first.came ++ more))
      moments more later =
          moments_on moment left_since (device_of (journal_of old)) (device_of (journal_of mid)) (device_of (journal_of new)) past first.came more first.any_moment later

      -- one turn more, after which more may come
      pub turns_on : Turned seen may_leave moment left_since (Ok true) mid new (record { before = b; after = c }) t u l m (past ++ first.came)
          → Turned seen may_leave moment left_since (Ok true) old new (record { before = a; after = c }) s u k m past
      turns_on later = record {
        came = first.came ++ later.came;
        leaves = leaves_on seen may_leave (Ok true) new a b c past first.came later.came first.leaves.1 later.leaves;
        comes = comes_on s t u k l m first.came later.came first.comes later.comes;
        any_moment = moments later.came later.any_moment;
      }

      -- the last turn
      pub turns_out : Turned seen may_leave moment left_since (Ok false) mid new (record { before = b; after = c }) t u l m (past ++ first.came)
          → AnsweredAll seen may_leave moment left_since (Ok tt) old new (record { before = a; after = c }) s k past
      turns_out later = record {
        came = first.came ++ later.came;
        leaves = leaves_on seen may_leave (Ok false) new a b c past first.came later.came first.leaves.1 later.leaves;
        comes = comes_to_its_end s t u k l m first.came later.came first.comes later.comes;
        any_moment = moments later.came later.any_moment;
      }

      pub turns_bad : (e : LedgerFault)
          → Turned seen may_leave moment left_since (Err e) mid new (record { before = b; after = c }) t u l m (past ++ first.came)
          → AnsweredAll seen may_leave moment left_since (Err e) old new (record { before = a; after = c }) s k past
      turns_bad e later = record {
        came = first.came ++ later.came;
        leaves = same_leaves Bool (Unit {0}) seen may_leave e new (record { before = a; after = c }) past (first.came ++ later.came) (leaves_on seen may_leave {B = Bool} (Err e) new a b c past first.came later.came first.leaves.1 later.leaves);
        comes = comes_to_a_fault (Unit {0}) e s t u k l m first.came later.came first.comes later.comes;
        any_moment = moments later.came later.any_moment;
      }

    -- so many turns that no more are made
    pub turns_stop : Turned seen may_leave moment left_since (Ok true) old mid (record { before = a; after = b }) s t k l past
        → AnsweredAll seen may_leave moment left_since (Err fault.Memory) old mid (record { before = a; after = b }) s k past
    turns_stop first = record {
      came = first.came;
      leaves = rests seen may_leave {A = Unit {0}} (Err fault.Memory) mid (record { before = a; after = b }) past first.came first.leaves.0 first.leaves.1;
      comes = comes_so_far (Unit {0}) s t k l first.came first.comes;
      any_moment = first.any_moment;
    }
