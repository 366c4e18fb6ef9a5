use Rattle.std.proofs.Common.{rules, refl, inr, ◌++◌, ◌∷◌, [], ◌∙◌, List, ℕ, inl, ap, subst}
use Rattle.std.specs.Prelude.{IsErrOf}
use Rattle.std.proofs.lemmas.List.{append-nil}
use Rattle.dr_journal.specs.declared.fault.JournalFault.TheVariants.{NoMemory, Full}
use Rattle.dr_journal.specs.Calls.Journals.{IsBeforeOrAfter, IsTooLarge, CrashLeaves, bytes_of, file_of, records_of}
use Rattle.dr_journal.proofs.Crash.{stays}
use Rattle.dr_journal.proofs.Moments.{no_call}
use Rattle.dr_journal.proofs.handler.take_event.Goals as goal

pub returns-in_err-push_event-clause-any_moment : goal.returns-in_err-push_event-clause-any_moment
returns-in_err-push_event-clause-any_moment g c =
    let d = g.D.Device in
    let e = g.E.AsRecord in
    let was = c.args.journal.now in
    no_call d.moment d.left_since d.may_leave g.met.D.Device.only_now was.device (IsBeforeOrAfter (records_of d.seen was) (bytes_of c.args.waiting.now.items ++ e.record_of (e.value c.args.event.now) ∷ [])) (λ f left. inl (stays d.seen d.may_leave was c.requires f left))

pub returns-then-not-end-clause-any_moment : goal.returns-then-not-end-clause-any_moment
returns-then-not-end-clause-any_moment g c =
    let d = g.D.Device in
    let e = g.E.AsRecord in
    let was = c.args.journal.now in
    no_call d.moment d.left_since d.may_leave g.met.D.Device.only_now was.device (IsBeforeOrAfter (records_of d.seen was) (bytes_of c.args.waiting.now.items ++ e.record_of (e.value c.args.event.now) ∷ [])) (λ f left. inl (stays d.seen d.may_leave was c.requires f left))

pub returns-then-not-end-clause-told : goal.returns-then-not-end-clause-told
returns-then-not-end-clause-told g c = ap (λ (l : List (List ℕ)). records_of g.D.Device.seen c.args.journal.now ++ l) c.in_ok-push_event.ensures.added

pub returns-in_err-append-clause-any_moment : goal.returns-in_err-append-clause-any_moment
returns-in_err-append-clause-any_moment g c =
    let d = g.D.Device in
    let was = c.args.journal.now in
    subst (λ l. CrashLeaves d.moment d.left_since was c.append.new.self (IsBeforeOrAfter (records_of d.seen was) l))
    (ap (λ l. bytes_of l) c.as_slice.ensures.value ∙ c.in_ok-push_event.ensures.added) c.append.ensures.any_moment

pub returns-in_err-append-clause-full : goal.returns-in_err-append-clause-full
returns-in_err-append-clause-full g c =
    let d = g.D.Device in
    let was = c.args.journal.now in
    λ is.
    let told : IsErrOf c.append.result Full = search rules in
    subst (λ l. IsTooLarge (file_of d.seen was) l) (ap (λ l. bytes_of l) c.as_slice.ensures.value ∙ c.in_ok-push_event.ensures.added) (c.append.ensures.full told).1

pub returns-in_err-push_event-clause-no_memory : goal.returns-in_err-push_event-clause-no_memory
returns-in_err-push_event-clause-no_memory g c = λ is. (c.requires, refl)

pub returns-in_err-append-clause-no_memory : goal.returns-in_err-append-clause-no_memory
returns-in_err-append-clause-no_memory g c =
    λ is.
    let told : IsErrOf c.append.result NoMemory = search rules in
    c.append.ensures.refused (inl told)

pub returns-in_err-append-clause-no_room : goal.returns-in_err-append-clause-no_room
returns-in_err-append-clause-no_room g c =
    λ is.
    let told : IsErrOf c.append.result Full = search rules in
    c.append.ensures.refused (inr told)

pub returns-clause-told : goal.returns-clause-told
returns-clause-told g c =
    let d = g.D.Device in
    let before = records_of d.seen c.args.journal.now in
    ap (λ l. records_of d.seen c.append.new.self ++ bytes_of l) c.clear.ensures.items
    ∙ append-nil (records_of d.seen c.append.new.self)
    ∙ c.in_ok-append.ensures.acknowledged
    ∙ ap (λ l. before ++ bytes_of l) c.as_slice.ensures.value
    ∙ ap (λ (l : List (List ℕ)). before ++ l) c.in_ok-push_event.ensures.added

pub returns-clause-any_moment : goal.returns-clause-any_moment
returns-clause-any_moment g c =
    let d = g.D.Device in
    let was = c.args.journal.now in
    subst (λ l. CrashLeaves d.moment d.left_since was c.append.new.self (IsBeforeOrAfter (records_of d.seen was) l))
    (ap (λ l. bytes_of l) c.as_slice.ensures.value ∙ c.in_ok-push_event.ensures.added) c.append.ensures.any_moment
