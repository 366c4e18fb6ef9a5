-- What the handlers of the replay hold, and how a call takes them further.
use Rattle.std.specs.Prelude.{◌≡◌, ℕ, ◌+◌, ◌-◌, nat_lt, Bool, true, false, ◌||◌, ◌==◌, if◌then◌else◌, List, ◌++◌, length, flat_map, codes, Option, None, Some, is_some, string_bytes}
use Rattle.std.specs.BTreeMap.{get}
use Rattle.std.specs.Ordering.{nat_cmp}
use Rattle.dr_seq.specs.declared.event.Event.{Event}
use Rattle.dr_accounts.specs.declared.journal.Journal.{Journal}
use Rattle.dr_accounts.specs.declared.replica.Replica.{Replica}
use Rattle.dr_accounts.specs.declared.business.Account.{Account}
use Rattle.dr_accounts.specs.declared.business.Business.{Business}
use Rattle.dr_operations.specs.declared.operation.Movement.{Movement}
use Rattle.dr_accounts.specs.Accounts.{balance_by, balance_of, is_account, names, refusal_by, refusals_of}
use Rattle.dr_operations.specs.Operations.{movement_of}
use Rattle.dr_accounts.specs.Report.{account_line, heading, journal_from, journal_line, replica_line}

-- one that failed stays as it is; one that has not failed after a call has taken the event
pub record Goes (T : Type 0) (failed : T → Bool) (Takes : T → T → Type 0) (old new : T) : Type 0 where
  pub stays : failed old ≡ true → new ≡ old
  pub takes : failed old ≡ false → failed new ≡ false → Takes old new

-- the journal

-- it has the lines of these events, unless it failed
pub record HasJournal (j : Journal) (events : List Event) : Type 0 where
  pub lines : string_bytes j.lines ≡ journal_from 0 events
  pub count : j.count ≡ length events

abbrev pub IsJournalOf : Journal → List Event → Type 0
IsJournalOf j events = j.failed ≡ false → HasJournal j events

-- what it says in the report
abbrev pub journal_text : Journal → List ℕ
journal_text j = heading (codes "journal") j.count ++ string_bytes j.lines

pub record Journaled (event : Event) (old new : Journal) : Type 0 where
  pub lines : string_bytes new.lines ≡ string_bytes old.lines ++ journal_line old.count event
  pub count : new.count ≡ old.count + 1

abbrev pub Journals : Journal → Event → Journal → Type 0
Journals old event new = Goes Journal (λ j. j.failed) (Journaled event) old new

-- the replica

pub record HasReplica (r : Replica) (events : List Event) : Type 0 where
  pub lines : string_bytes r.lines ≡ flat_map replica_line events
  pub count : r.count ≡ length events

abbrev pub IsReplicaOf : Replica → List Event → Type 0
IsReplicaOf r events = r.failed ≡ false → HasReplica r events

abbrev pub replica_text : Replica → List ℕ
replica_text r = heading (codes "replica") r.count ++ string_bytes r.lines

pub record Copied (event : Event) (old new : Replica) : Type 0 where
  pub lines : string_bytes new.lines ≡ string_bytes old.lines ++ replica_line event
  pub count : new.count ≡ old.count + 1

abbrev pub Copies : Replica → Event → Replica → Type 0
Copies old event new = Goes Replica (λ r. r.failed) (Copied event) old new

-- the business handler

-- what it keeps of an account, if an event named it
abbrev pub kept : Business → ℕ → Option Account
kept b a = get nat_cmp b.accounts a

abbrev pub balance_in : Option Account → ℕ
balance_in None = 0
balance_in (Some account) = account.balance

abbrev pub refused_in : Option Account → ℕ
refused_in None = 0
refused_in (Some account) = account.refused

-- it has the balance and the refusals of each account that these events name, unless it failed
pub record HasBusiness (b : Business) (events : List Event) : Type 0 where
  pub balances : (a : ℕ) → balance_in (kept b a) ≡ balance_of events a
  pub refusals : (a : ℕ) → refused_in (kept b a) ≡ refusals_of events a
  pub named : (a : ℕ) → is_some (kept b a) ≡ is_account events a
  pub count : b.count ≡ length events

abbrev pub IsBusinessOf : Business → List Event → Type 0
IsBusinessOf b events = b.failed ≡ false → HasBusiness b events

-- a movement goes through the balance of an account
pub record MovedAt (m : Movement) (old new : ℕ → Option Account) (a : ℕ) : Type 0 where
  pub balance : balance_in (new a) ≡ balance_by m (λ x. balance_in (old x)) a
  pub refused : refused_in (new a) ≡ refused_in (old a) + refusal_by m (λ x. balance_in (old x)) a
  pub named : is_some (new a) ≡ (is_some (old a) || names m a)

-- and through those of all accounts
abbrev pub Moved : Movement → Business → Business → Type 0
Moved m old new = (a : ℕ) → MovedAt m (kept old) (kept new) a

pub record Booked (event : Event) (old new : Business) : Type 0 where
  pub moved : Moved (movement_of event) old new
  pub count : new.count ≡ old.count + 1

abbrev pub Books : Business → Event → Business → Type 0
Books old event new = Goes Business (λ b. b.failed) (Booked event) old new

-- the account with a number is now another
abbrev pub Puts : ℕ → Account → Business → Business → Type 0
Puts number account old new = (a : ℕ) → kept new a ≡ (if a == number then Some account else kept old a)

abbrev pub added : Option Account → ℕ → Account
added account amount = record { balance = balance_in account + amount; refused = refused_in account }

-- what a withdrawal leaves
abbrev pub taken : Option Account → ℕ → Account
taken account amount =
    if nat_lt (balance_in account) amount then record { balance = balance_in account; refused = refused_in account + 1 }
    else record { balance = balance_in account - amount; refused = refused_in account }

-- a line for each account that is kept, by rising number
abbrev pub account_lines : List (ℕ × Account) → List ℕ
account_lines entries = flat_map (λ e. account_line e.0 e.1.balance e.1.refused) entries

abbrev pub business_text : Business → List ℕ
business_text b = heading (codes "business") b.count ++ account_lines b.accounts.entries
