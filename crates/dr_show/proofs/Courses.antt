-- What a record does to a run, and what is put of it.
use Rattle.std.proofs.Common.{◌≡◌, ℕ, Bool, false, List, ◌++◌, Some, None, Result, Ok, Err, refl, sym, ap, subst, ◌∙◌, arith, length, take, codes}
use Rattle.std.specs.Prelude.{if◌then◌else◌}
use Rattle.dr_seq.specs.declared.event.Event.{Event}
use Rattle.dr_meaning.specs.declared.command.Command.{Command}
use Rattle.dr_meaning.specs.declared.command.Reply.{Reply}
use Rattle.dr_meaning.specs.Meaning.Machine.{Outcome, Setup, State, next, opening, step}
use Rattle.dr_meaning.specs.Meaning.Runs.{count_in}
use Rattle.dr_core.specs.Calls.Shows.{Shows}
use Rattle.dr_core.proofs.Shown.{same_next}
use Rattle.dr_records.specs.Records.{Field, Record}
use Rattle.dr_drive.specs.declared.exchange.Exchange.{Exchange}
use Rattle.dr_drive.specs.declared.fault.Cause.{Cause}
use Rattle.dr_drive.specs.declared.fault.Cause.TheVariants.{BadRecord}
use Rattle.dr_drive.specs.declared.fault.RecordFault.{RecordFault}
use Rattle.dr_drive.specs.declared.fault.RecordFault.TheVariants as fault
use Rattle.dr_drive.specs.Meaning.Commands.{command_of}
use Rattle.dr_drive.specs.Meaning.Setup.{SettingUp, prepared}
use Rattle.dr_drive.specs.Meaning.DriveText.{Phase, Preparing, Running, Taken, obeys, prepares, taken, told}
use Rattle.dr_drive.specs.Meaning.Lines.{line_of}
use Rattle.dr_drive.specs.Calls.Shows.{ExchangeShows, Executes, FaultAs, IsPreparation, batch_of, core_of, setting_up_of}
use Rattle.dr_drive.specs.declared.setup.Preparation.{Preparation}
use Rattle.dr_show.specs.declared.course.Course.{Course}
use Rattle.dr_show.specs.declared.course.Course.TheVariants as come_to
use Rattle.dr_show.specs.declared.course.Running.{Running as Kept}
use Rattle.dr_show.specs.declared.sequences.Sequence.{Sequence}
use Rattle.dr_show.specs.declared.tool.Window.{Window}
use Rattle.dr_show.specs.Meaning.PageText.{object_of, record_text, shows}
use Rattle.dr_show.specs.Meaning.Texts.{bytes_text}
use Rattle.dr_show.specs.Meaning.StateText.{exchange_text, state_text}
use Rattle.dr_show.specs.Inside.Courses.{CourseShows, FailsAs, Keeps, RunsRecord, RunningShows, TakesRecord, recents_of}
use Rattle.dr_show.specs.Inside.Objects.{command_seen, start_seen}
use Rattle.dr_show.specs.Inside.Seen.{state_seen}
use Rattle.dr_show.specs.Inside.Sequences.{Follows, Remembers}
use Rattle.dr_show.proofs.Seeing.{state_same}

-- a command was answered in the state that is shown, and so many sequences are claimed after it
follows_in : (r : Kept) (e : Exchange) (names : List Field) (c : Setup) (m : State Event) (command : Command Event) (reply : Reply) (upto : ℕ)
    → Keeps r names c m
    → Executes e names c (step c m command) reply → upto ≡ (core_of e).next → Follows c m command reply upto (recents_of r)
follows_in r e names c m command reply upto keeps did counted =
    let sh : Shows (core_of r.exchange) m = keeps.exchange.shows in
    record {
      replies = did.replies;
      size = keeps.size;
      remembers = keeps.remembers;
      unclaimed = λ s after. sh.recents.unclaimed s (let n : next m ≡ (core_of r.exchange).next = same_next sh in omega arith);
      counted = same_next did.shows.shows ∙ sym counted;
    }

pub follows : (r : Kept) (e : Exchange) (phase : Phase) (command : Command Event) (reply : Reply) (upto : ℕ) → RunningShows r phase
    → ((names : List Field) (c : Setup) (m : State Event) → ExchangeShows r.exchange names c m → Executes e names c (step c m command) reply) → upto ≡ (core_of e).next
    → (c : Setup) × (m : State Event) × Follows c m command reply upto (recents_of r)
follows r e (Preparing stage) command reply upto shown did counted = absurd shown
follows r e (Running names c m) command reply upto keeps did counted = (c, m, follows_in r e names c m command reply upto keeps (did names c m keeps.exchange) counted)

-- a record that is no command
pub no_command : (r : Kept) (phase : Phase) (row : Record) → RunningShows r phase → command_of (core_of r.exchange).names row ≡ None
    → taken false phase row ≡ Err BadRecord
no_command r (Preparing stage) row shown is = absurd shown
no_command r (Running names c m) row keeps is = ap (obeys false names c m) (ap (λ (ns : List Field). command_of ns row) keeps.exchange.names_are ∙ is)

-- a command was executed, its sequences were noted, and its line was put
pub ran_as : (r new : Kept) (phase : Phase) (row : Record) (command : Command Event) (reply : Reply) (upto : ℕ) (events : List Event) (line : List ℕ) → RunningShows r phase
    → command_of (core_of r.exchange).names row ≡ Some command
    → ((names : List Field) (c : Setup) (m : State Event) → ExchangeShows r.exchange names c m → Executes new.exchange names c (step c m command) reply)
    → upto ≡ (core_of new.exchange).next → length (recents_of new) ≡ length (recents_of r)
    → ((c : Setup) (m : State Event) → Follows c m command reply upto (recents_of r) → Remembers (recents_of new) (step c m command).state)
    → events ≡ take (count_in reply) (batch_of new.exchange) → line ≡ line_of reply events
    → RunsRecord new line (taken false phase row)
ran_as r new (Preparing stage) row command reply upto events line shown is did counted sized noted handed put = absurd shown
ran_as r new (Running names c m) row command reply upto events line keeps is did counted sized noted handed put =
    let o : Outcome Event = step c m command in
    let ran : Executes new.exchange names c o reply = did names c m keeps.exchange in
    let same : told false names c o ≡ line = ap (λ x. line_of x o.values) ran.replies ∙ ap (λ es. line_of reply es) (ran.hands_out ∙ sym handed) ∙ sym put in
    record {
      names = names;
      setup = c;
      state = o.state;
      is = ap (obeys false names c m) (ap (λ (ns : List Field). command_of ns row) keeps.exchange.names_are ∙ is)
          ∙ ap (λ (l : List ℕ). Ok (record { phase = Running names c o.state; line = Some l })) same;
      keeps = record {
        exchange = ran.shows;
        size = sized ∙ keeps.size;
        remembers = noted c m (follows_in r new.exchange names c m command reply upto keeps ran counted);
      };
    }

-- there are as many slots as the core has
pub sized : (r : Kept) (names : List Field) (c : Setup) (m : State Event) → Keeps r names c m → length (recents_of r) ≡ (core_of r.exchange).setup.size
sized r names c m keeps = keeps.size ∙ sym (ap (λ (s : Setup). s.size) keeps.exchange.setup_is)

-- nothing is claimed at the opening
pub none_claimed : (c : Setup) (slots : List Sequence) → Remembers slots (opening c)
none_claimed c slots = record { at = λ s within recent. absurd (omega arith) }

-- the state that is put
state_put : (e : Exchange) (slots : List Sequence) (names : List Field) (c : Setup) (m : State Event) → ExchangeShows e names c m
    → length slots ≡ (core_of e).setup.size
    → Remembers slots m → state_seen (core_of e) slots ≡ state_text c m
state_put e slots names c m shown size remembers = sym (state_same (core_of e) m shown.shows slots size remembers) ∙ ap (λ (k : Setup). state_text k m) shown.setup_is

-- the object of the record that opens an exchange
pub start_put : (w : Window) (k : ℕ) (row : Record) (e : Exchange) (slots : List Sequence) (names : List Field) (c : Setup) (old new : List ℕ)
    → ExchangeShows e names c (opening c)
    → length slots ≡ (core_of e).setup.size → new ≡ old ++ start_seen k row (core_of e) slots → new ≡ old ++ object_of k row (record { phase = Running names c (opening c); line = None })
start_put w k row e slots names c old new shown size put =
    put
    ∙ ap (λ (ns : List Field). old ++ (record_text k row ++ (exchange_text ns (core_of e).setup ++ state_seen (core_of e) slots) ++ codes "},\n")) (sym shown.names_are)
    ∙ ap (λ (s : Setup). old ++ (record_text k row ++ (exchange_text names s ++ state_seen (core_of e) slots) ++ codes "},\n")) shown.setup_is
    ∙ ap (λ (t : List ℕ). old ++ (record_text k row ++ (exchange_text names c ++ t) ++ codes "},\n")) (state_put e slots names c (opening c) shown size (none_claimed c slots))

-- the object of a command
pub command_put : (told shown : Bool) (k : ℕ) (row : Record) (text line : List ℕ) (r : Kept) (names : List Field) (c : Setup) (m : State Event) (old new : List ℕ) → Keeps r names c m
    → told ≡ shown → text ≡ line → new ≡ (if told then old ++ command_seen k row text (core_of r.exchange) (recents_of r) else old)
    → new ≡ (if shown then old ++ object_of k row (record { phase = Running names c m; line = Some line }) else old)
command_put told shown k row text line r names c m old new keeps same is put =
    put
    ∙ ap (λ (b : Bool). if b then old ++ command_seen k row text (core_of r.exchange) (recents_of r) else old) same
    ∙ ap (λ (t : List ℕ). if shown then old ++ command_seen k row t (core_of r.exchange) (recents_of r) else old) is
    ∙ ap (λ (t : List ℕ). if shown then old ++ (record_text k row ++ (codes ",\"reply\":\"" ++ bytes_text line ++ codes "\"" ++ t) ++ codes "},\n") else old)
    (state_put r.exchange (recents_of r) names c m keeps.exchange (sized r names c m keeps) keeps.remembers)

-- a record that is not taken, in the setup and after it, puts nothing
pub setup_not_taken : (f : RecordFault) (w : Window) (k : ℕ) (row : Record) (stage : SettingUp) (old : List ℕ) → FaultAs f (prepared stage row)
    → TakesRecord (Err f) w k row (taken false (Preparing stage) row) old old
setup_not_taken (fault.Cause cause) w k row stage old is = (ap prepares is, refl)
setup_not_taken fault.Memory w k row stage old is = tt

pub not_taken : (f : RecordFault) (w : Window) (k : ℕ) (row : Record) (t : Result Taken Cause) (old : List ℕ) → FailsAs f t
    → TakesRecord (Err f) w k row t old old
not_taken (fault.Cause cause) w k row t old is = (is, refl)
not_taken fault.Memory w k row t old is = tt

-- a course in its setup
pub in_setup : (course : Course) (p : Preparation) → course ≡ come_to.Preparing p → (phase : Phase) × CourseShows course phase → IsPreparation p
in_setup course p is shown = let at : CourseShows (come_to.Preparing p) shown.0 = subst (λ (x : Course). CourseShows x shown.0) is shown.1 in at.1

pub setup_taken : (result : Result Course RecordFault) (w : Window) (k : ℕ) (row : Record) (old new : List ℕ) (course : Course) (p : Preparation)
    → course ≡ come_to.Preparing p
    → TakesRecord result w k row (taken false (Preparing (setting_up_of p)) row) old new → (phase : Phase) → CourseShows course phase → TakesRecord result w k row (taken false phase row) old new
setup_taken result w k row old new course p is took phase shown =
    let at : CourseShows (come_to.Preparing p) phase = subst (λ (x : Course). CourseShows x phase) is shown in
    subst (λ (s : Phase). TakesRecord result w k row (taken false s row) old new) (sym at.0) took
