-- What comes of a file.
use Rattle.std.proofs.Common.{◌≡◌, ◌+◌, ℕ, List, [], ◌∷◌, ◌++◌, length, map, Option, None, Some, Vec, refl, sym, ◌∙◌, ap, subst, arith, append-nil, append_assoc, length-append}
use Rattle.std.specs.Prelude.{IsSome}
use Rattle.std.proofs.lemmas.List.{length-map}
use Rattle.std.specs.declared.alloc.Global.{Global}
use Rattle.dr_seq.specs.declared.event.Event.{Event}
use Rattle.dr_journal.specs.Calls.Journals.{bytes_of}
use Rattle.dr_journal.specs.Calls.Opened.{read_so_far}
use Rattle.dr_journal.specs.Calls.Reading.{AddsNext}
use Rattle.dr_journal.specs.Calls.Records.{IsFirstBad, event_in}
use Rattle.dr_journal.specs.Meaning.Format.{recovered}
use Rattle.dr_journal.specs.declared.opening.Opening.{Opening}
use Rattle.dr_ledger.specs.Coming.{HasCome, SayFirst, read_of, records_read, waiting_of}
use Rattle.dr_ledger.specs.Standing.{Say}
use Rattle.dr_ledger.specs.Starting.{AreBooked, IsTaken}
use Rattle.dr_ledger.specs.declared.accounts.Accounts.{Accounts}
use Rattle.dr_ledger.specs.declared.coming.Coming.{Coming}
use Rattle.dr_ledger.proofs.Kept.{say_more}

-- records that come behind others

say_length : (records : List (List ℕ)) (events : List Event) → Say records events → length records ≡ length events
say_length records events says = sym (length-map records event_in) ∙ ap (λ (l : List (Option Event)). length l) says ∙ length-map events (λ (e : Event). Some e)

-- the first bad one stands as many places later as there are others
pub bad_behind : (before records : List (List ℕ)) (past : List Event) (n : ℕ) → Say before past → IsFirstBad event_in records n
    → IsFirstBad event_in (before ++ records) (length past + n)
bad_behind before records past n says bad =
    let many = say_length before past says in
    let longer = length-append before bad.before in
    let place = bad.place in
    record {
      before = before ++ bad.before;
      bytes = bad.bytes;
      after = bad.after;
      parts = ap (λ l. before ++ l) bad.parts ∙ sym (append_assoc before bad.before (bad.bytes ∷ bad.after));
      place = omega (arith, many, longer, place);
      good = (past ++ bad.good.0, say_more before bad.before past bad.good.0 says bad.good.1);
      bad = bad.bad;
    }

-- the records that a piece adds
pub added : (was now : List ℕ) (before after : List (Vec ℕ Global)) → before ≡ [] → AddsNext was now before after
    → recovered now ≡ recovered was ++ bytes_of after
added was now before after none adds =
    let all : after ≡ adds.2.0 = adds.2.1 ∙ ap (λ (l : List (Vec ℕ Global)). l ++ adds.2.0) none in
    ap recovered adds.1 ∙ adds.2.2 ∙ ap (λ (l : List (Vec ℕ Global)). recovered was ++ bytes_of l) (sym all)

-- so it is of a file that is open
pub added_to : (now : Option Opening) (was new : Opening) (other : Option Opening) → now ≡ Some was → (before after : List (Vec ℕ Global)) → before ≡ []
    → AddsNext (read_so_far was) (read_so_far new) before after
    → recovered (read_of (Some new) other) ≡ recovered (read_of now other) ++ bytes_of after
added_to now was new other is before after none adds =
    added (read_so_far was) (read_so_far new) before after none adds ∙ ap (λ (o : Option Opening). recovered (read_of o other) ++ bytes_of after) (sym is)

pub none_added : (records : List (List ℕ)) (after : List (Vec ℕ Global)) → after ≡ [] → records ≡ records ++ bytes_of after
none_added records after none = sym (ap (λ (l : List (Vec ℕ Global)). records ++ bytes_of l) none ∙ append-nil records)

-- what was read of a file that is open, and the same after its journal is made
pub read_of_open : (now : Option Opening) (opening : Opening) (other : Option Opening) → now ≡ Some opening → recovered (read_of now other) ≡ recovered (read_so_far opening)
read_of_open now opening other is = ap (λ (o : Option Opening). recovered (read_of o other)) is

pub read_still : (now after seen other : Option Opening) → IsSome now → after ≡ None → seen ≡ now → recovered (read_of after seen) ≡ recovered (read_of now other)
read_still (Some opening) after seen other some closed is =
    ap (λ (o : Option Opening). recovered (read_of o seen)) closed ∙ ap (λ (o : Option Opening). recovered (read_of None o)) is
read_still None after seen other some closed is = cc

-- where a piece is not read
pub stays_so : (now : Option Opening) (was new : Opening) (other : Option Opening) → now ≡ Some was → read_so_far new ≡ read_so_far was
    → read_of (Some new) other ≡ read_of now other
stays_so now was new other is same = same ∙ ap (λ (o : Option Opening). read_of o other) (sym is)

-- of a file of which nothing was read nothing came
pub fresh_come : (opening : Opening) (waiting : List Event) → read_so_far opening ≡ [] → waiting ≡ [] → Say (recovered (read_so_far opening)) ([] ++ waiting)
fresh_come opening waiting unread none =
    subst (λ (l : List Event). Say (recovered (read_so_far opening)) l) (sym none) (subst (λ (l : List ℕ). Say (recovered l) []) (sym unread) refl)

-- they say the operations that wait now, where none waited before
pub comes_more : (records more now : List (List ℕ)) (past before events : List Event) → Say records (past ++ before) → before ≡ [] → Say more events
    → now ≡ records ++ more → Say now (past ++ events)
comes_more records more now past before events says none others is =
    let taken : past ++ before ≡ past = ap (λ l. past ++ l) none ∙ append-nil past in
    subst (λ r. Say r (past ++ events)) (sym is) (say_more records more past events (subst (λ l. Say records l) taken says) others)

pub says_first : (records more now : List (List ℕ)) (events : List Event) → Say records events → now ≡ records ++ more → SayFirst now events
says_first records more now events says is = record { first = records; later = more; parts = is; say = says }

pub says_all : (records now : List (List ℕ)) (events : List Event) → Say records events → now ≡ records → SayFirst now events
says_all records now events says is = record { first = records; later = []; parts = is ∙ sym (append-nil records); say = says }

-- nothing waits any more
pub none_waits : (records : List (List ℕ)) (past waiting : List Event) → waiting ≡ [] → Say records (past ++ waiting) → Say records past
none_waits records past waiting none says = subst (λ l. Say records l) (ap (λ l. past ++ l) none ∙ append-nil past) says

pub all_taken : (records : List (List ℕ)) (past waiting : List Event) → waiting ≡ [] → Say records past → Say records (past ++ waiting)
all_taken records past waiting none says = subst (λ l. Say records l) (sym (ap (λ l. past ++ l) none ∙ append-nil past)) says

-- operations that are booked as they come

pub books_none : (coming : Coming) (accounts : Accounts) (past : List Event) → IsTaken coming accounts past → IsTaken coming accounts (past ++ [])
books_none coming accounts past taken = subst (λ l. IsTaken coming accounts l) (sym (append-nil past)) taken

pub books_on : (was coming : Coming) (accounts : Accounts) (past first slice : List Event) → slice ≡ waiting_of was → records_read coming ≡ records_read was
    → waiting_of coming ≡ [] → HasCome was (past ++ first) → AreBooked accounts ((past ++ first) ++ slice)
    → IsTaken coming accounts (past ++ (first ++ waiting_of was))
books_on was coming accounts past first slice is same none come booked =
    let behind = append_assoc past first (waiting_of was) in
    record {
      come = all_taken (records_read coming) (past ++ (first ++ waiting_of was)) (waiting_of coming) none
          (subst (λ l. Say (records_read coming) l) behind (subst (λ r. Say r ((past ++ first) ++ waiting_of was)) (sym same) come));
      booked = subst (λ l. AreBooked accounts l) behind (subst (λ l. AreBooked accounts ((past ++ first) ++ l)) is booked);
    }
