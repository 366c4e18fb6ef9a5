-- How a batch is stored, booked and answered.
use Rattle.std.proofs.Common.{◌≡◌, ◌⊎◌, inl, inr, ℕ, true, false, string_bytes, List, [], ◌∷◌, ◌++◌, Option, None, Some, Result, Ok, Err, sym, ◌∙◌, subst, append-nil, append_assoc}
use Rattle.std.proofs.KnownBytes.{Appends-nil}
use Rattle.std.specs.Io.KnownBytes.{Appends, Keeps}
use Rattle.dr_seq.specs.declared.event.Event.{Event}
use Rattle.dr_files.specs.Outcome.{AppendsFront}
use Rattle.dr_accounts.specs.Answers.{answers_to}
use Rattle.dr_accounts.specs.Handlers.{HasBusiness}
use Rattle.dr_accounts.specs.Responding.{IsResponderOf, answering}
use Rattle.dr_accounts.proofs.Answering.{answers_shown}
use Rattle.dr_accounts.proofs.Shown.{booked_goes, took}
use Rattle.dr_workers.proofs.Along.{along}
use Rattle.dr_meaning.specs.Calls.Handling.{GoesThrough, showings}
use Rattle.dr_accounts.specs.declared.responder.Responder.{Responder}
use Rattle.dr_journal.specs.Calls.Journals.{IsAtRest, records_of}
use Rattle.dr_journal.specs.Calls.Parts.{device_of}
use Rattle.dr_journal.specs.declared.journal.Journal.{Journal}
use Rattle.dr_ledger.specs.Batches.{IsCopyAtRest, Replies, Stores, Takes}
use Rattle.dr_ledger.specs.Answering.{AreAnswered, IsKept, Leaves, Written}
use Rattle.dr_ledger.specs.Standing.{Copies, HasBooked, Holds, IsAtWork, IsBeginning, Say, StandsForThem, business_of, journal_of, replica_of}
use Rattle.dr_ledger.specs.declared.fault.LedgerFault.{LedgerFault}
use Rattle.dr_ledger.specs.declared.fault.LedgerFault.TheVariants as fault
use Rattle.dr_ledger.specs.declared.ledger.Ledger.{Ledger}
use Rattle.dr_ledger.proofs.Kept.{all_of, none_of, kept_stored, say_more}

module _ {D : Type 0} (seen : D → List ℕ) (may_leave : D → List ℕ → Type 0) where
  -- what a crash leaves of a journal at rest
  pub left_at_rest : (journal : Journal D) (events : List Event) → Holds seen may_leave journal events → (file : List ℕ)
      → may_leave (device_of journal) file → StandsForThem events file
  left_at_rest journal events holds file left =
      let same = holds.at_rest.durable file left in
      subst (λ f. StandsForThem events f) (sym same) ((_, holds.at_rest.file), holds.records)

  -- a replica that has operations is at rest
  pub copy_rests : (replica : Option (Journal D)) (events : List Event) → Copies seen may_leave replica events → IsCopyAtRest seen may_leave replica
  copy_rests None events copies = tt
  copy_rests (Some replica) events copies = copies.at_rest

  -- a batch behind what a journal stood for
  pub holds_more : (old new : Journal D) (past events : List Event) → (batch : List (List ℕ)) → Say batch events → Holds seen may_leave old past
      → IsAtRest seen may_leave new → records_of seen new ≡ records_of seen old ++ batch → Holds seen may_leave new (past ++ events)
  holds_more old new past events batch says holds rest more = record {
    at_rest = rest;
    records = subst (λ r. Say r (past ++ events)) (sym more) (say_more (records_of seen old) batch past events holds.records says);
  }

  -- a journal that a refused call left as it was
  pub holds_still : (old new : Journal D) (past : List Event) → Holds seen may_leave old past → IsAtRest seen may_leave new
      → records_of seen new ≡ records_of seen old → Holds seen may_leave new past
  holds_still old new past holds rest same = record { at_rest = rest; records = subst (λ r. Say r past) (sym same) holds.records }

  -- a ledger at work may stop for any reason
  pub rests : {A : Type 0} (result : Result A LedgerFault) (new : Ledger D) (written : Written) (past came : List Event)
      → IsAtWork seen may_leave new (past ++ came) → AreAnswered written past came → Leaves seen may_leave result new written past came
  rests (Ok done) new written past came work wrote = (work, wrote)
  rests (Err (fault.BadRecord k)) new written past came work wrote = (work, wrote)
  rests (Err fault.Read) new written past came work wrote = (work, wrote)
  rests (Err fault.Memory) new written past came work wrote = record { answered = came; stored = came; in_order = all_of came; first = all_of came; holds = work.journal; wrote = wrote }
  rests (Err fault.Full) new written past came work wrote = record { answered = came; stored = came; in_order = all_of came; first = all_of came; holds = work.journal; wrote = wrote }
  rests (Err fault.Write) new written past came work wrote = record { stored = came; first = all_of came; holds = work.journal; wrote = (answers_to past came, ([], sym (append-nil (answers_to past came))), wrote) }
  rests (Err fault.Disk) new written past came work wrote = record {
    answered = came;
    first = all_of came;
    wrote = wrote;
    kept = λ file left. kept_stored past came came came file (all_of came) (all_of came) (left_at_rest (journal_of new) (past ++ came) work.journal file left);
  }

  -- nothing came
  pub still_at_work : (ledger : Ledger D) (past : List Event) → IsAtWork seen may_leave ledger past → IsAtWork seen may_leave ledger (past ++ [])
  still_at_work ledger past work = subst (λ l. IsAtWork seen may_leave ledger l) (sym (append-nil past)) work

  holds_same : (journal : Journal D) (past : List Event) → Holds seen may_leave journal past → Holds seen may_leave journal (past ++ [])
  holds_same journal past holds = subst (λ l. Holds seen may_leave journal l) (sym (append-nil past)) holds

  refused : (result : LedgerFault) (new : Ledger D) (known : Option (List ℕ)) (past events : List Event)
      → Holds seen may_leave (journal_of new) past ⊎ Holds seen may_leave (journal_of new) (past ++ events)
      → (stored : List Event) × IsBeginning stored events × Holds seen may_leave (journal_of new) (past ++ stored)
  refused result new known past events (inl was) = ([], none_of events, holds_same (journal_of new) past was)
  refused result new known past events (inr is) = (events, all_of events, is)

  -- a batch that is not stored is not answered
  pub not_stored : (A B : Type 0) (e : LedgerFault) (new : Ledger D) (known : Option (List ℕ)) (past events : List Event)
      → Stores seen may_leave {A = B} (Err e) new past events
      → ((file : List ℕ) → may_leave (device_of (journal_of new)) file → IsKept past [] events file)
      → Takes seen may_leave {A = A} (Err e) new (record { before = known; after = known }) past events
  not_stored A B (fault.BadRecord k) new known past events stores kept = stores
  not_stored A B fault.Read new known past events stores kept = stores
  not_stored A B fault.Write new known past events stores kept = absurd stores
  not_stored A B fault.Memory new known past events stores kept =
      let s = refused fault.Memory new known past events stores in
      record { answered = []; stored = s.0; in_order = none_of s.0; first = s.1; holds = s.2; wrote = Appends-nil known }
  not_stored A B fault.Full new known past events stores kept =
      let s = refused fault.Full new known past events stores in
      record { answered = []; stored = s.0; in_order = none_of s.0; first = s.1; holds = s.2; wrote = Appends-nil known }
  not_stored A B fault.Disk new known past events stores kept = record { answered = []; first = none_of events; wrote = Appends-nil known; kept = kept }

  -- a batch that is stored is answered as it is replied to
  pub replied : {A : Type 0} (result : Result A LedgerFault) (new : Ledger D) (written : Written) (past events : List Event)
      → Holds seen may_leave (journal_of new) (past ++ events) → Copies seen may_leave (replica_of new) (past ++ events)
      → Replies result (business_of new) written past events → Takes seen may_leave result new written past events
  replied (Ok done) new written past events holds copies replies = (record { journal = holds; replica = copies; booked = replies.0 }, replies.1)
  replied (Err fault.Memory) new written past events holds copies replies = record { answered = []; stored = events; in_order = none_of events; first = all_of events; holds = holds; wrote = replies }
  replied (Err fault.Write) new written past events holds copies replies = record { stored = events; first = all_of events; holds = holds; wrote = replies }
  replied (Err (fault.BadRecord k)) new written past events holds copies replies = replies
  replied (Err fault.Read) new written past events holds copies replies = replies
  replied (Err fault.Full) new written past events holds copies replies = absurd replies
  replied (Err fault.Disk) new written past events holds copies replies = absurd replies

-- what a responder says of a batch that it was shown

module _ (past events : List Event) (old last : Responder) (booked : HasBooked old past) (through : GoesThrough answering old (showings events 0 true) last) (well : last.failed ≡ false) where
  accounts_after : HasBusiness last.business (past ++ events)
  accounts_after =
      along answering (λ r es. r.failed ≡ false → HasBusiness r.business (past ++ es))
      (λ a b es e s end has goes. λ fine.
      let t = took (λ r. r.failed) _ a b goes fine in
      subst (λ l. HasBusiness b.business l) (append_assoc past es (e ∷ [])) (booked_goes a.business b.business (past ++ es) e (has t.0) t.1.booked))
      old last [] events 0 true (λ fine. booked.accounts.accounts) through well

  answers_after : string_bytes last.answers ≡ answers_to past events
  answers_after = answers_shown past events old last 0 true (λ fine. booked.accounts) through well

  pub answered_all : IsResponderOf last past events
  answered_all = λ fine. record { accounts = accounts_after; answers = answers_after }

  -- a text that is its answers
  pub said : (text : List ℕ) → text ≡ string_bytes last.answers → text ≡ answers_to past events
  said text is = is ∙ answers_after

  -- and after they are taken
  pub booked_all : (new : Responder) → (IsResponderOf last past events → IsResponderOf new (past ++ events) []) → new.failed ≡ last.failed
      → HasBooked new (past ++ events)
  booked_all new cleared same = record { accounts = cleared answered_all (same ∙ well); well = same ∙ well }

pub wrote_all : (old mid new : Option (List ℕ)) (text : List ℕ) → Appends old mid text → Keeps mid new → Appends old new text
wrote_all None mid new text wrote kept = tt
wrote_all (Some x) None new text wrote kept = absurd wrote
wrote_all (Some x) (Some y) None text wrote kept = absurd kept
wrote_all (Some x) (Some y) (Some z) text wrote kept = kept ∙ wrote

-- all is a beginning too
pub wrote_front : (old new : Option (List ℕ)) (text : List ℕ) → Appends old new text → AppendsFront old new text
wrote_front old new text wrote = (text, ([], sym (append-nil text)), wrote)
