-- How a ledger starts.
use Rattle.std.proofs.Common.{◌≡◌, ⊎_elim, ℕ, true, false, List, [], ◌++◌, refl, sym, subst, arith, append-nil}
use Rattle.dr_seq.specs.declared.event.Event.{Event}
use Rattle.dr_meaning.specs.Calls.Handling.{GoesThrough, Relation, showings}
use Rattle.dr_accounts.specs.Handlers.{Books, HasBusiness, IsBusinessOf}
use Rattle.dr_accounts.specs.declared.business.Business.{Business}
use Rattle.dr_accounts.proofs.Shown.{business_goes}
use Rattle.dr_workers.proofs.Along.{along}
use Rattle.dr_journal.specs.Calls.Journals.{CrashLeaves, IsAtRest, records_of}
use Rattle.dr_journal.specs.Calls.Opened.{file_left_since}
use Rattle.dr_journal.specs.Calls.Parts.{device_of}
use Rattle.dr_journal.specs.Meaning.Format.{recovered}
use Rattle.dr_journal.specs.declared.file.FileDevice.{FileDevice}
use Rattle.dr_journal.specs.declared.journal.Journal.{Journal}
use Rattle.dr_ledger.specs.Answering.{IsKept}
use Rattle.dr_ledger.specs.Standing.{Holds, IsBeginning, Say}
use Rattle.dr_ledger.specs.Starting.{AreBetween, OnlyGains}
use Rattle.dr_ledger.proofs.Batches.{left_at_rest}
use Rattle.dr_ledger.proofs.Kept.{all_of, begins_later, none_of, stands_more}
use Rattle.dr_ledger.proofs.Moments.{no_call}

abbrev books : Relation Event Business
books old event s end new = Books old event new

-- a business handler is shown operations behind those that it has
pub books_more : (old new : Business) (past events : List Event) → HasBusiness old past → GoesThrough books old (showings events 0 true) new
    → new.failed ≡ false → HasBusiness new (past ++ events)
books_more old new past events has through well = along books IsBusinessOf business_goes old new past events 0 true (λ fine. has) through well

module _ {D : Type 0} (seen : D → List ℕ) (may_leave : D → List ℕ → Type 0) where
  -- with no call a crash leaves what the journal has
  kept_still : (journal : Journal D) (past later : List Event) → Holds seen may_leave journal past → (file : List ℕ)
      → may_leave (device_of journal) file → IsKept past [] later file
  kept_still journal past later holds file left = record { more = []; first = none_of later; stands = stands_more past (past ++ []) file (sym (append-nil past)) (left_at_rest seen may_leave journal past holds file left) }

  pub no_moments : (moment : D → ℕ) (left_since : D → ℕ → List ℕ → Type 0) → ((file : D) (c : List ℕ) → left_since file (moment file) c → may_leave file c)
      → (journal : Journal D) (past later : List Event) → Holds seen may_leave journal past → CrashLeaves moment left_since journal journal (IsKept past [] later)
  no_moments moment left_since only_now journal past later holds =
      no_call moment left_since may_leave only_now (device_of journal) (IsKept past [] later) (λ file left. kept_still journal past later holds file left)

  -- a journal that was made of a file stands for what the file's records say
  pub holds_of : (journal : Journal D) (records : List (List ℕ)) (events : List Event) → IsAtRest seen may_leave journal → records_of seen journal ≡ records
      → Say records events → Holds seen may_leave journal events
  holds_of journal records events rest same says = record { at_rest = rest; records = subst (λ r. Say r events) (sym same) says }

-- what a crash left of a file since it was opened

-- before more was written
between_had : (had all : List Event) (records : List (List ℕ)) → IsBeginning had all → Say records had → AreBetween had all records
between_had had all records first says = record { kept = had; say = says; had_all = all_of had; first = first }

between_kept : (had came : List Event) (c : List ℕ) → IsKept had [] came c → AreBetween had (had ++ came) (recovered c)
between_kept had came c kept = record {
  kept = had ++ kept.more;
  say = kept.stands.1;
  had_all = (kept.more, refl);
  first = begins_later had kept.more came kept.first;
}

pub gains_none : (journal : Journal FileDevice) (records : List (List ℕ)) (had : List Event) → Say records had
    → ((c : List ℕ) → file_left_since (device_of journal) 0 c → recovered c ≡ records)
    → OnlyGains journal had had
gains_none journal records had says same = λ c left. between_had had had (recovered c) (all_of had) (subst (λ r. Say r had) (sym (same c left)) says)

pub gains_rest : (moment : FileDevice → ℕ) (old new : Journal FileDevice) (records : List (List ℕ)) (had came : List Event) → Say records had
    → ((c : List ℕ) → file_left_since (device_of old) 0 c → recovered c ≡ records) → CrashLeaves moment file_left_since old new (IsKept had [] came)
    → OnlyGains new had (had ++ came)
gains_rest moment old new records had came says same leaves = λ c left.
    ⊎_elim (λ was. between_had had (had ++ came) (recovered c) (came, refl) (subst (λ r. Say r had) (sym (same c was)) says))
    (λ now. between_kept had came c now) (leaves.before 0 c (omega arith) left)
