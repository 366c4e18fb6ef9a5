-- What a replay leaves written where a write of its report failed.
use Rattle.std.proofs.Common.{◌≡◌, ℕ, List, [], ◌∷◌, Option, Some, None, IfSome, IfOk, IsErrAnd, Result, Ok, Err, refl, sym, subst}
use Rattle.std.proofs.lemmas.List.{append-nil}
use Rattle.std.specs.Io.KnownBytes.{Appends, Keeps}
use Rattle.dr_seq.specs.declared.event.Event.{Event}
use Rattle.dr_accounts.specs.Report.{report_of}
use Rattle.dr_files.specs.Outcome.{AppendsFront, AreCut, Begins}
use Rattle.dr_operations.specs.EventFile.{events_of}
use Rattle.dr_files.specs.declared.fault.FileFault.TheVariants as file
use Rattle.dr_replay.specs.declared.fault.ReplayFault.{ReplayFault}
use Rattle.dr_replay.specs.declared.fault.ReplayFault.TheVariants as fault
use Rattle.dr_replay.specs.Calls.Workers.{IsOfMerge}
use Rattle.dr_replay.specs.Meaning.Exchange.{IsOfReplay}
use Rattle.dr_replay.specs.Calls.Replayed.{IsReportOfMerge, LockFaultWrites, ReplayFaultKeeps}
use Rattle.dr_accounts.specs.ReplayText.{replay_text, reported}

-- what holds where a fault is answered that came from a call
pub at_exit : {A E : Type 0} (r : Result A E) (e : E) (P : Result A E → Type 0) → IsErrAnd r (λ y. y ≡ e) → P (Err e) → P r
at_exit (Ok x) e P is p = absurd is
at_exit (Err y) e P is p = subst (λ z. P (Err z)) (sym is) p

-- a report is one line, of which a beginning was written
pub cut_report : (old new input : Option (List ℕ)) (events : List Event) (text : List ℕ)
    → IfSome input (λ bytes. events_of bytes ≡ Ok events) → text ≡ report_of events → AppendsFront old new text
    → IfSome input (λ bytes. AreCut old new (replay_text bytes).lines)
cut_report old new None events text is same wrote = tt
cut_report old new (Some bytes) events text is same (start, begins, wrote) =
    let P : Result (List Event) ℕ → Type 0 = λ r. AreCut old new (reported r).lines in
    let here : AreCut old new (report_of events ∷ []) = record {
      whole = [];
      line = report_of events;
      later = [];
      are = refl;
      front = start;
      begins = subst (Begins start) same begins;
      wrote = wrote;
    } in
    subst P (sym is) here

-- what holds of the events that were read holds of the file's
pub of_file : (Holds : List Event → Type 0) (input : Option (List ℕ)) (given events : List Event) → given ≡ events
    → IfSome input (λ bytes. events_of bytes ≡ Ok events) → Holds given → IfSome input (λ bytes. IfOk (events_of bytes) Holds)
of_file Holds None given events same is holds = tt
of_file Holds (Some bytes) given events same is holds =
    let P : Result (List Event) ℕ → Type 0 = λ r. IfOk r Holds in
    subst P (sym is) (subst Holds same holds)

-- a beginning of the report of a merge was written
pub cut_merge : (size : ℕ) (old new input : Option (List ℕ)) (events : List Event) (text : List ℕ)
    → IfSome input (λ bytes. events_of bytes ≡ Ok events) → IsReportOfMerge (IsOfReplay size events) events text → AppendsFront old new text
    → IfSome input (λ bytes. (found : List Event) × (said : List ℕ) × (events_of bytes ≡ Ok found) × IsReportOfMerge (IsOfReplay size found) found said
    × AppendsFront old new said)
cut_merge size old new None events text is of_merge wrote = tt
cut_merge size old new (Some bytes) events text is of_merge wrote = (events, text, is, of_merge, wrote)

-- before anything is written, a fault of the workers or of an audit is of the file's events

keeps_all : (old : Option (List ℕ)) → Keeps old old
keeps_all None = tt
keeps_all (Some xs) = refl

-- whatever is answered, if nothing is written
pub all_kept : (old : Option (List ℕ)) (e : ReplayFault) → ReplayFaultKeeps e old old
all_kept old (fault.Worker who f) = keeps_all old
all_kept old (fault.Audit f) = keeps_all old
all_kept old (fault.File file.Memory) = keeps_all old
all_kept old (fault.File (file.Input k cause)) = keeps_all old
all_kept old (fault.File file.Read) = keeps_all old
all_kept old (fault.File file.Write) = tt

adds_none : (old : Option (List ℕ)) → Appends old old []
adds_none None = tt
adds_none (Some xs) = sym (append-nil xs)

kept : (may_stop : ℕ → Type 0) (size : ℕ) (old : Option (List ℕ)) (events : List Event) (e : ReplayFault) → IsOfMerge may_stop (IsOfReplay size events) events e
    → LockFaultWrites may_stop size e old old (Ok events)
kept may_stop size old events (fault.File file.Memory) is = (0, adds_none old)
kept may_stop size old events (fault.File (file.Input k cause)) is = absurd is
kept may_stop size old events (fault.File file.Read) is = absurd is
kept may_stop size old events (fault.File file.Write) is = absurd is
kept may_stop size old events (fault.Worker who f) is = (events, refl, is, keeps_all old)
kept may_stop size old events (fault.Audit f) is = (events, refl, is, keeps_all old)

pub kept_merge : (may_stop : ℕ → Type 0) (size : ℕ) (old input : Option (List ℕ)) (given events : List Event) (e : ReplayFault) → given ≡ events
    → IfSome input (λ bytes. events_of bytes ≡ Ok events) → IsOfMerge may_stop (IsOfReplay size given) given e
    → IfSome input (λ bytes. LockFaultWrites may_stop size e old old (events_of bytes))
kept_merge may_stop size old None given events e same is of_merge = tt
kept_merge may_stop size old (Some bytes) given events e same is of_merge =
    let P : Result (List Event) ℕ → Type 0 = λ r. LockFaultWrites may_stop size e old old r in
    subst P (sym is) (kept may_stop size old events e (subst (λ (l : List Event). IsOfMerge may_stop (IsOfReplay size l) l e) same of_merge))
