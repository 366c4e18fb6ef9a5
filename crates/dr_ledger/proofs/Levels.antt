-- A journal that is given what comes of another file.
use Rattle.std.proofs.Common.{◌≡◌, ℕ, List, [], ◌++◌, Ok, Err, refl, sym, subst, append-nil, append_assoc}
use Rattle.dr_seq.specs.declared.event.Event.{Event}
use Rattle.dr_journal.specs.Calls.Journals.{CrashLeaves, IsAtRest, records_of}
use Rattle.dr_journal.specs.Calls.Parts.{device_of}
use Rattle.dr_journal.specs.declared.journal.Journal.{Journal}
use Rattle.dr_ledger.specs.Coming.{HasCome, SayFirst, records_read, waiting_of}
use Rattle.dr_ledger.specs.Answering.{IsKept}
use Rattle.dr_ledger.specs.Standing.{Say}
use Rattle.dr_ledger.specs.Starting.{AreBooked, IsLevel, Levels, TellsLevel}
use Rattle.dr_ledger.specs.declared.accounts.Accounts.{Accounts}
use Rattle.dr_ledger.specs.declared.coming.Coming.{Coming}
use Rattle.dr_ledger.specs.declared.start_fault.StartFault.{StartFault}
use Rattle.dr_ledger.proofs.Batches.{holds_more}
use Rattle.dr_ledger.proofs.Comings.{all_taken, none_waits, says_all}
use Rattle.dr_ledger.proofs.Kept.{kept_longer}
use Rattle.dr_ledger.proofs.Moments.{moments_on, weaker}
use Rattle.dr_ledger.proofs.Starts.{no_moments}

module _ {D : Type 0} (seen : D → List ℕ) (may_leave : D → List ℕ → Type 0) where
  -- what waited is given
  pub given : (old new : Journal D) (was rest : Coming) (accounts : Accounts) (past : List Event) (batch : List (List ℕ))
      → records_read rest ≡ records_read was → waiting_of rest ≡ [] → Say batch (waiting_of was) → IsLevel seen may_leave old was accounts past
      → IsAtRest seen may_leave new → records_of seen new ≡ records_of seen old ++ batch → (booked : Accounts) → AreBooked booked (past ++ waiting_of was)
      → IsLevel seen may_leave new rest booked (past ++ waiting_of was)
  given old new was rest accounts past batch same none says level rests more booked has = record {
    holds = holds_more seen may_leave old new past (waiting_of was) batch says level.holds rests more;
    comes = subst (λ r. Say r ((past ++ waiting_of was) ++ waiting_of rest)) (sym same) (all_taken (records_read was) (past ++ waiting_of was) (waiting_of rest) none level.comes);
    booked = has;
  }

  -- where nothing waits nothing is given
  pub given_none : (journal : Journal D) (rest : Coming) (accounts : Accounts) (past : List Event) → waiting_of rest ≡ [] → IsLevel seen may_leave journal rest accounts past
      → IsLevel seen may_leave journal rest accounts (past ++ waiting_of rest)
  given_none journal rest accounts past none level =
      subst (λ l. IsLevel seen may_leave journal rest accounts (past ++ l)) (sym none) (subst (λ l. IsLevel seen may_leave journal rest accounts l) (sym (append-nil past)) level)

  module _ (moment : D → ℕ) (left_since : D → ℕ → List ℕ → Type 0) where
    -- some operations came so far
    pub record SoFar (old new : Journal D) (rest : Coming) (accounts : Accounts) (past : List Event) : Type 0 where
      pub came : List Event
      pub level : IsLevel seen may_leave new rest accounts (past ++ came)
      pub any_moment : CrashLeaves moment left_since old new (IsKept past [] came)

    pub none_so_far : ((file : D) (c : List ℕ) → left_since file (moment file) c → may_leave file c) → (journal : Journal D) (rest : Coming) (accounts : Accounts) (past : List Event)
        → IsLevel seen may_leave journal rest accounts past
        → SoFar journal journal rest accounts past
    none_so_far only_now journal rest accounts past level = record {
      came = [];
      level = subst (λ l. IsLevel seen may_leave journal rest accounts l) (sym (append-nil past)) level;
      any_moment = no_moments seen may_leave moment left_since only_now journal past [] level.holds;
    }

    -- then those came that waited
    pub more_so_far : (old mid new : Journal D) (was now rest : Coming) (accounts after : Accounts) (past : List Event) → (so_far : SoFar old mid was accounts past)
        → CrashLeaves moment left_since mid new (IsKept (past ++ so_far.came) [] (waiting_of now))
        → IsLevel seen may_leave new rest after ((past ++ so_far.came) ++ waiting_of now)
        → SoFar old new rest after past
    more_so_far old mid new was now rest accounts after past so_far moments level = record {
      came = so_far.came ++ waiting_of now;
      level = subst (λ l. IsLevel seen may_leave new rest after l) (append_assoc past so_far.came (waiting_of now)) level;
      any_moment = moments_on moment left_since (device_of old) (device_of mid) (device_of new) past so_far.came (waiting_of now) so_far.any_moment moments;
    }

    -- all came
    pub all_came : (old new : Journal D) (was rest : Coming) (accounts : Accounts) (past : List Event) → (so_far : SoFar old new was accounts past)
        → HasCome rest (past ++ so_far.came) → waiting_of rest ≡ []
        → Levels seen may_leave moment left_since (Ok tt) old new rest accounts past
    all_came old new was rest accounts past so_far come none = record {
      came = so_far.came;
      said = says_all (records_read rest) (records_read rest) (past ++ so_far.came) (none_waits (records_read rest) (past ++ so_far.came) (waiting_of rest) none come) refl;
      any_moment = so_far.any_moment;
      leaves = (record { holds = so_far.level.holds; comes = come; booked = so_far.level.booked }, none);
    }

    -- no more comes, with some that waited
    pub stops : (fault : StartFault) (old new : Journal D) (was rest : Coming) (accounts after : Accounts) (past waited : List Event) → (so_far : SoFar old new was accounts past)
        → SayFirst (records_read rest) ((past ++ so_far.came) ++ waited) → TellsLevel fault rest
        → Levels seen may_leave moment left_since (Err fault) old new rest after past
    stops fault old new was rest accounts after past waited so_far said told = record {
      came = so_far.came ++ waited;
      said = subst (λ l. SayFirst (records_read rest) l) (append_assoc past so_far.came waited) said;
      any_moment = weaker moment left_since (device_of old) (device_of new) (IsKept past [] so_far.came) (IsKept past [] (so_far.came ++ waited)) so_far.any_moment (λ file kept. kept_longer past [] so_far.came waited file kept);
      leaves = told;
    }

    -- what waited is not given whole
    pub stops_giving : (fault : StartFault) (old mid new : Journal D) (was now rest : Coming) (accounts after : Accounts) (past : List Event) → (so_far : SoFar old mid was accounts past)
        → HasCome now (past ++ so_far.came) → records_read rest ≡ records_read now
        → CrashLeaves moment left_since mid new (IsKept (past ++ so_far.came) [] (waiting_of now)) → TellsLevel fault rest
        → Levels seen may_leave moment left_since (Err fault) old new rest after past
    stops_giving fault old mid new was now rest accounts after past so_far come same moments told = record {
      came = so_far.came ++ waiting_of now;
      said = subst (λ l. SayFirst (records_read rest) l) (append_assoc past so_far.came (waiting_of now)) (says_all (records_read now) (records_read rest) ((past ++ so_far.came) ++ waiting_of now) come same);
      any_moment = moments_on moment left_since (device_of old) (device_of mid) (device_of new) past so_far.came (waiting_of now) so_far.any_moment moments;
      leaves = told;
    }
