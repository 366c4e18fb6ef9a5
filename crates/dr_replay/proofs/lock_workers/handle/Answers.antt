use Rattle.std.proofs.Common.{◌≡◌, Err, List, None, Ok, Result, Some, ap, refl, subst, sym, ◌∙◌}
use Rattle.std.specs.Prelude.{Bool, IfOk, OnOk, false}
use Rattle.dr_lock.specs.Calls.Asking.{OutletAsks}
use Rattle.dr_lock.specs.Calls.Lock.{no_calls}
use Rattle.dr_workers.specs.Calls.Serving.{Serves}
use Rattle.dr_reports.specs.Keeping.{AnswersFor, error_of}
use Rattle.dr_lock.specs.declared.locked.LockedOutlet.{LockedOutlet}
use Rattle.dr_replay.specs.Calls.Listing.{Listed, Lists}
use Rattle.dr_replay.specs.Calls.LockWorkers.{GivesList, list_of}
use Rattle.dr_workers.specs.declared.fault.WorkFault.{WorkFault}
use Rattle.dr_seq.specs.declared.event.Event.{Event}
use Rattle.dr_lock.proofs.Asked.{asked}
use Rattle.dr_reports.proofs.Answering.{answers_calls, lacks_memory, stopped_by}
use Rattle.dr_replay.proofs.lock_workers.handle.Goals.{in-Err-default, in-Ok-Some+in-Ok-this-2, in-Ok-Some+in-Err-1, in-Ok-None}
use Rattle.dr_replay.proofs.lock_workers.handle.Goals as goal

-- the list of a part, where a worker gives one back
abbrev Gives : {X : Type 0} → (X → List Event) → Listed → Result X WorkFault → Type 0
Gives list_in after part = GivesList (error_of part) after (list_of part list_in)

gives_none : {X : Type 0} (list_in : X → List Event) (after : Listed) (part : Result X WorkFault) (f : WorkFault) → part ≡ Err f → Gives list_in after part
gives_none list_in after part f is = subst (Gives list_in after) (sym is) refl

gives_all : {X A : Type 0} (list_in : X → List Event) (after : Listed) (got : Result X A) (part : Result X WorkFault) (p : X) → got ≡ Ok p → part ≡ Ok p
    → IfOk got (λ x. list_in x ≡ after.list) → OnOk got (after.failed ≡ false) → Gives list_in after part
gives_all list_in after got part p found is list well =
    subst (Gives list_in after) (sym is)
    (subst (λ x. OnOk x (after.failed ≡ false)) found well, ap (λ l. Some l) (subst (λ x. IfOk x (λ y. list_in y ≡ after.list)) found list))

where_ok : {A E P : Type 0} {result : Result A E} {part : A} → result ≡ Ok part → OnOk result P → P
where_ok {P = P} is holds = subst (λ r. OnOk r P) is holds

pub returns : goal.returns
returns g c =
    let run = c.serve-back in
    let begun = g.L.Exchange.begun in
    let gate = c.args.around.now.gate.now in
    let fault = run.result.1 in
    let answer = error_of c.match-part.part in
    let failed : Bool = run.new.handler.failed in
    let answers : AnswersFor failed fault answer = elim c.match-part.branch [
      | in-Err-default w ↦ lacks_memory failed fault answer (ap error_of w.part-is)
      | in-Ok-Some+in-Ok-this-2 w ↦ answers_calls failed fault answer (where_ok w.in-Ok-Some.is-0 c.part.ensures.well)
          (ap error_of w.part-is ∙ sym w.in-Ok-Some.is-1)
      | in-Ok-Some+in-Err-1 w ↦ answers_calls failed fault answer (where_ok w.in-Ok-Some.is-0 c.part.ensures.well)
          (ap error_of w.part-is ∙ sym w.in-Ok-Some.is-1)
      | in-Ok-None w ↦ answers_calls failed fault answer (where_ok w.in-Ok-None.is-0 c.part.ensures.well)
          (ap error_of w.part-is ∙ sym w.in-Ok-None.is-1)
    ]
    in
    let begins : c.new-locked.result.end ≡ no_calls = c.new-locked.ensures.end ∙ c.requires.unused in
    record {
      start = c.new-listing.result;
      after = run.new.handler;
      fault = run.result.1;
      new = c.new-listing.ensures.empty;
      well = c.new-listing.ensures.well;
      calls = asked (λ (old : LockedOutlet _ _ _) call (new : LockedOutlet _ _ _). (new.h ≡ old.h) × OutletAsks begun old.h old.end call new.end)
          (OutletAsks begun c.args.who) (λ outlet. outlet.end) (λ outlet. outlet.h ≡ c.args.who)
          (λ old new call here is. (is.0 ∙ here, subst (λ n. OutletAsks begun n old.end call new.end) here is.1))
          {Holds = Serves 256 Lists c.new-listing.result run.new.handler None None (g.G.Gate.may_stop gate c.args.who)
          (g.G.Gate.must_stop gate c.args.who) run.result.1}
          c.new-locked.result run.result.0 no_calls c.into_end-end.result c.new-locked.ensures.number begins c.into_end-end.ensures run.ensures.serves;
      answers = answers;
      stopped = stopped_by failed fault answer answers run.ensures.stopped;
      lists = elim c.match-part.branch [
        | in-Err-default w ↦ gives_none (λ part. part.list.items) run.new.handler c.match-part.part _ w.part-is
        | in-Ok-Some+in-Ok-this-2 w ↦ gives_none (λ part. part.list.items) run.new.handler c.match-part.part _ w.part-is
        | in-Ok-Some+in-Err-1 w ↦ gives_none (λ part. part.list.items) run.new.handler c.match-part.part _ w.part-is
        | in-Ok-None w ↦ gives_all (λ part. part.list.items) run.new.handler c.part.result c.match-part.part _ w.in-Ok-None.is-0 w.part-is
            c.part.ensures.list c.part.ensures.well
      ];
    }
