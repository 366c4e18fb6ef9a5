-- Journals that are made of a ledger's files, and the ledger that starts from them.
use Rattle.std.proofs.Common.{◌≡◌, ◌+◌, inl, inr, ℕ, List, [], ◌++◌, length, Option, Some, Ok, refl, sym, ◌∙◌, ap, subst}
use Rattle.dr_seq.specs.declared.event.Event.{Event}
use Rattle.dr_journal.specs.Calls.Journals.{IsAtRest, faults_of, records_of}
use Rattle.dr_journal.specs.Calls.Opened.{file_faults, file_left, file_left_since, file_seen}
use Rattle.dr_journal.specs.Calls.Parts.{device_of}
use Rattle.dr_journal.specs.Meaning.Format.{recovered}
use Rattle.dr_journal.specs.declared.file.FileDevice.{FileDevice}
use Rattle.dr_journal.specs.declared.journal.Journal.{Journal}
use Rattle.dr_ledger.specs.Coming.{records_read, waiting_of}
use Rattle.dr_ledger.specs.Standing.{IsAtWork, Say, disk_faults, journal_of, replica_faults, replica_of}
use Rattle.dr_ledger.specs.Starting.{AreTaken, CopyOnlyGains, Even, IsLevel, IsTaken, Levels, OnlyGains, StartsFrom, StartsFromBoth}
use Rattle.dr_ledger.specs.declared.accounts.Accounts.{Accounts}
use Rattle.dr_ledger.specs.declared.coming.Coming.{Coming}
use Rattle.dr_ledger.specs.declared.ledger.Ledger.{Ledger}
use Rattle.dr_ledger.proofs.Comings.{none_waits}
use Rattle.dr_ledger.proofs.Kept.{all_of}
use Rattle.dr_ledger.proofs.Starts.{gains_none, gains_rest, holds_of}

-- since a file was opened, each crash left these records
abbrev Keeps : Journal FileDevice → List (List ℕ) → Type 0
Keeps journal records = (c : List ℕ) → file_left_since (device_of journal) 0 c → recovered c ≡ records

-- the journal that is made of a file that has no more is level with the accounts
pub made_level : (made : Journal FileDevice) (short long : Coming) (accounts : Accounts) (past : List Event) → AreTaken short long accounts past
    → waiting_of short ≡ [] → IsAtRest file_seen file_left made → records_of file_seen made ≡ records_read short → IsLevel file_seen file_left made long accounts past
made_level made short long accounts past taken none rests same = record {
  holds = holds_of file_seen file_left made (records_read short) past rests same (none_waits (records_read short) past (waiting_of short) none taken.journal);
  comes = taken.replica;
  booked = taken.booked;
}

-- and then the other's journal has the same
pub made_even : (moment : FileDevice → ℕ) (made levelled other : Journal FileDevice) (short short_now mid long_now : Coming) (accounts : Accounts) (past : List Event)
    → Say (records_read short) past → Keeps made (records_read short) → records_read short_now ≡ records_read short
    → Levels file_seen file_left moment file_left_since (Ok tt) made levelled mid accounts past
    → IsAtRest file_seen file_left other → records_of file_seen other ≡ records_read mid → Keeps other (records_read mid) → records_read long_now ≡ records_read mid
    → Even levelled other short_now long_now accounts past
made_even moment made levelled other short short_now mid long_now accounts past says keeps same levels rests has keeps_other same_other =
    let all = past ++ levels.came in
    let all_said = none_waits (records_read mid) all (waiting_of mid) levels.leaves.1 levels.leaves.0.comes in
    record {
      more = levels.came;
      says = subst (λ r. Say r past) (sym same) says;
      other_says = subst (λ r. Say r all) (sym same_other) all_said;
      holds = levels.leaves.0.holds;
      other_holds = holds_of file_seen file_left other (records_read mid) all rests has all_said;
      booked = levels.leaves.0.booked;
      any_moment = gains_rest moment made levelled (records_read short) past levels.came says keeps levels.any_moment;
      other_any_moment = gains_none other (records_read mid) all all_said keeps_other;
    }

-- no disk of a ledger has failed
pub no_faults : (ledger : Ledger FileDevice) (made : Journal FileDevice) (copy : Option (Journal FileDevice)) → journal_of ledger ≡ made → replica_of ledger ≡ copy
    → faults_of file_faults made ≡ 0 → replica_faults file_faults copy ≡ 0 → disk_faults file_faults ledger ≡ 0
no_faults ledger made copy is copies none none_copied =
    ap (λ (j : Journal FileDevice). faults_of file_faults j + replica_faults file_faults (replica_of ledger)) is
    ∙ ap (λ (o : Option (Journal FileDevice)). faults_of file_faults made + replica_faults file_faults o) copies
    ∙ ap (λ n. n + replica_faults file_faults copy) none ∙ ap (λ n. 0 + n) none_copied

-- a ledger over one journal
pub starts_from : (ledger : Ledger FileDevice) (count : ℕ) (made : Journal FileDevice) (read now : Coming) (accounts : Accounts) (all : List Event) → journal_of ledger ≡ made
    → IsTaken read accounts all → waiting_of read ≡ [] → Keeps made (records_read read) → records_read now ≡ records_read read
    → IsAtWork file_seen file_left ledger all → count ≡ length all
    → StartsFrom ledger count now
starts_from ledger count made read now accounts all is taken none keeps same work counted =
    let says = none_waits (records_read read) all (waiting_of read) none taken.come in
    record {
      all = all;
      says = subst (λ r. Say r all) (sym same) says;
      work = work;
      counted = counted;
      any_moment = subst (λ j. OnlyGains j all all) (sym is) (gains_none made (records_read read) all says keeps);
    }

-- a ledger over two, of which the journal was the shorter one, or the replica was
pub starts_as_replica : (ledger : Ledger FileDevice) (count : ℕ) (made copy : Journal FileDevice) (journal replica : Coming) (accounts : Accounts) (had : List Event)
    → journal_of ledger ≡ made → replica_of ledger ≡ Some copy
    → (even : Even made copy journal replica accounts had)
    → IsAtWork file_seen file_left ledger (had ++ even.more) → count ≡ length (had ++ even.more)
    → StartsFromBoth ledger count journal replica
starts_as_replica ledger count made copy journal replica accounts had is copies even work counted = record {
  own = had;
  copied = had ++ even.more;
  all = had ++ even.more;
  says = even.says;
  copies = even.other_says;
  from_one = inr refl;
  own_first = (even.more, refl);
  copied_first = all_of (had ++ even.more);
  work = work;
  counted = counted;
  any_moment = subst (λ j. OnlyGains j had (had ++ even.more)) (sym is) even.any_moment;
  any_moment_copy = subst (λ o. CopyOnlyGains o (had ++ even.more) (had ++ even.more)) (sym copies) even.other_any_moment;
}

pub starts_as_journal : (ledger : Ledger FileDevice) (count : ℕ) (made copy : Journal FileDevice) (journal replica : Coming) (accounts : Accounts) (had : List Event)
    → journal_of ledger ≡ made → replica_of ledger ≡ Some copy
    → (even : Even copy made replica journal accounts had)
    → IsAtWork file_seen file_left ledger (had ++ even.more) → count ≡ length (had ++ even.more)
    → StartsFromBoth ledger count journal replica
starts_as_journal ledger count made copy journal replica accounts had is copies even work counted = record {
  own = had ++ even.more;
  copied = had;
  all = had ++ even.more;
  says = even.other_says;
  copies = even.says;
  from_one = inl refl;
  own_first = all_of (had ++ even.more);
  copied_first = (even.more, refl);
  work = work;
  counted = counted;
  any_moment = subst (λ j. OnlyGains j (had ++ even.more) (had ++ even.more)) (sym is) even.other_any_moment;
  any_moment_copy = subst (λ o. CopyOnlyGains o had (had ++ even.more)) (sym copies) even.any_moment;
}

pub flipped : (journal replica : Coming) (accounts : Accounts) (past : List Event) → AreTaken journal replica accounts past → AreTaken replica journal accounts past
flipped journal replica accounts past taken = record { journal = taken.replica; replica = taken.journal; booked = taken.booked }
