use Rattle.std.proofs.Common.{◌≡◌, ◌∙◌, ◌++◌, ℕ, Bool, false, List, [], Option, Some, Result, Ok, Err, IfOk, ap, arith, refl, string_bytes, subst, sym, true}
use Rattle.dr_seq.specs.declared.event.Event.{Event}
use Rattle.dr_meaning.specs.Calls.Calling.{SomeCalls}
use Rattle.dr_meaning.specs.Calls.Handling.{Relation}
use Rattle.dr_ring.specs.Calls.Ends.{ReceiverEnd, received_of}
use Rattle.dr_ring.specs.Calls.Outlets.{receiver_does}
use Rattle.dr_workers.specs.Calls.Serving.{Serves}
use Rattle.dr_workers.specs.Meaning.Work.{HandsOut, batches_in, dealt_events}
use Rattle.dr_workers.specs.declared.fault.WorkFault.{WorkFault}
use Rattle.dr_workers.proofs.Lent.{serves_lent}
use Rattle.dr_reports.specs.Keeping.{AnswersFor, IsServed, error_of}
use Rattle.dr_reports.proofs.Answering.{answers_calls, lacks_memory, stopped_by}
use Rattle.dr_reports.proofs.Refusing.{never_refused}
use Rattle.dr_reports.proofs.worker.work.Goals.{in-Err-default, in-Ok-Some+in-Ok-this-2, in-Ok-Some+in-Err-1, in-Ok-None}
use Rattle.dr_reports.proofs.worker.work.Goals as goal

where_none : {A E : Type 0} (part : Result A E) (e : E) (Says : A → Type 0) → part ≡ Err e → IfOk part Says
where_none part e Says is = subst (λ p. IfOk p Says) (sym is) tt

where_ok : {A E P : Type 0} {result : Result A E} {part : A} → result ≡ Ok part → IfOk result (λ x. P) → P
where_ok {P = P} is holds = subst (λ r. IfOk r (λ x. P)) is holds

shown_all : (old new : List Event) (dealt : List Event) → old ≡ [] → new ≡ old ++ dealt → dealt ≡ new
shown_all old new dealt none is = sym (is ∙ ap (λ l. l ++ dealt) none)

served_by : {A : Type 0} {goes : Relation Event A} {IsNew : A → Type 0} {failed : A → Bool} {may_stop must_stop : ℕ → Type 0} {given back : ReceiverEnd} {answer : Option WorkFault}
    (start after : A) (fault : Option WorkFault) → IsNew start → failed start ≡ false → AnswersFor (failed after) fault answer
    → SomeCalls receiver_does given back (Serves 256 goes start after (Some (received_of given.knows)) (Some (received_of back.knows)) may_stop must_stop fault)
    → IsServed goes IsNew failed may_stop must_stop given back answer
served_by start after fault new well answers calls =
    record { start = start; after = after; fault = fault; new = new; well = well; calls = calls; answers = answers }

pub returns : goal.returns
returns g c =
    let given = c.args.receiver in
    let run = c.serve-receiver in
    let back = run.result.0 in
    let fault = run.result.1 in
    let part = c.match-part.part in
    let by_value = run.ensures.serves in
    let after = run.new.handler.handler in
    let serves : SomeCalls receiver_does given back (Serves 256 g.P.Handler.goes c.begin-handler.result after (Some (received_of given.knows))
    (Some (received_of back.knows)) (g.G.Gate.may_stop c.args.gate.now c.args.who) (g.G.Gate.must_stop c.args.gate.now c.args.who) fault) = record {
      calls = by_value.calls;
      lead = by_value.lead;
      holds = serves_lent 256 _ g.P.Handler.goes (λ h. h.handler) (λ a b event s end is. is) _ run.new.handler after _ _ _ _ _ by_value.calls refl by_value.holds;
    } in
    let batches = batches_in serves.calls in
    let failed : Bool = g.P.Reporter.failed after in
    let answers : AnswersFor failed fault (error_of part) = elim c.match-part.branch [
      | in-Err-default w ↦ lacks_memory failed fault (error_of part) (ap error_of w.part-is)
      | in-Ok-Some+in-Ok-this-2 w ↦ answers_calls failed fault (error_of part) (where_ok w.in-Ok-Some.is-0 c.part.ensures.well)
          (ap error_of w.part-is ∙ sym w.in-Ok-Some.is-1)
      | in-Ok-Some+in-Err-1 w ↦ answers_calls failed fault (error_of part) (where_ok w.in-Ok-Some.is-0 c.part.ensures.well)
          (ap error_of w.part-is ∙ sym w.in-Ok-Some.is-1)
      | in-Ok-None w ↦ answers_calls failed fault (error_of part) (where_ok w.in-Ok-None.is-0 c.part.ensures.well)
          (ap error_of w.part-is ∙ sym w.in-Ok-None.is-1)
    ]
    in
    record {
      place = run.ensures.kept;
      told = λ none. elim c.match-part.branch [
        | in-Err-default w ↦ where_none part _ _ w.part-is
        | in-Ok-Some+in-Ok-this-2 w ↦ where_none part _ _ w.part-is
        | in-Ok-Some+in-Err-1 w ↦ where_none part _ _ w.part-is
        | in-Ok-None w ↦ subst (λ p. IfOk p (λ text. back.knows.told ≡ true)) (sym w.part-is) (rw w.in-Ok-None.is-1 at run.ensures.drained)
      ];
      says = λ none. elim c.match-part.branch [
        | in-Err-default w ↦ where_none part _ _ w.part-is
        | in-Ok-Some+in-Ok-this-2 w ↦ where_none part _ _ w.part-is
        | in-Ok-Some+in-Err-1 w ↦ where_none part _ _ w.part-is
        | in-Ok-None w ↦
            let handed : HandsOut batches (received_of given.knows) (received_of back.knows) = serves.holds.works.handed in
            let all : dealt_events batches ≡ back.knows.received = shown_all given.knows.received back.knows.received (dealt_events batches) none handed.0 in
            let says = c.part.ensures.text c.begin-handler.result batches c.begin-handler.ensures.new serves.holds.works.through in
            subst (λ p. IfOk p (λ text. string_bytes text ≡ g.P.Reporter.part_of back.knows.received)) (sym w.part-is)
            (subst (λ p. IfOk p (λ text. string_bytes text ≡ g.P.Reporter.part_of back.knows.received)) w.in-Ok-None.is-0
            (subst (λ l. IfOk c.part.result (λ text. string_bytes text ≡ g.P.Reporter.part_of l)) all says))
      ];
      stopped = λ is. stopped_by failed fault (error_of part) answers run.ensures.stopped (ap error_of is);
      refused = never_refused 256 _ _ _ _ _ _ _ fault part failed (omega arith) answers serves;
      served = served_by c.begin-handler.result after fault c.begin-handler.ensures.new c.begin-handler.ensures.well answers serves;
    }
