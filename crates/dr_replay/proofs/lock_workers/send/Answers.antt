use Rattle.std.proofs.Common.{◌≡◌, ◌+◌, refl, ap, subst, ◌∙◌}
use Rattle.dr_seq.specs.declared.event.Event.{Event}
use Rattle.dr_seq.proofs.Sizes.{size_positive}
use Rattle.dr_lock.specs.Calls.Asking.{InletAsks}
use Rattle.dr_lock.specs.Calls.Lock.{no_calls}
use Rattle.dr_workers.specs.Calls.Serving.{Sends}
use Rattle.dr_lock.specs.declared.locked.LockedInlet.{LockedInlet}
use Rattle.dr_replay.specs.Calls.LockWorkers.{HasSent}
use Rattle.dr_lock.proofs.Asked.{asked}
use Rattle.dr_replay.proofs.lock_workers.send.Goals as goal

pub returns : goal.returns
returns g c =
    let run = c.produce_with-produced in
    let begun = g.L.Exchange.begun in
    let task = c.args.task in
    let may_stop = g.G.Gate.may_stop c.args.around.now.gate.now (16 + task.p) in
    let must_stop = g.G.Gate.must_stop c.args.around.now.gate.now (16 + task.p) in
    let number : c.new-inlet.result.p ≡ task.p = ap (λ (inlet : LockedInlet _ _ _). inlet.p) c.new-inlet.ensures ∙ c.new-locked.ensures.number in
    let begins : c.new-inlet.result.end ≡ no_calls = ap (λ (inlet : LockedInlet _ _ _). inlet.end) c.new-inlet.ensures ∙ c.new-locked.ensures.end
    ∙ c.requires.unused in
    let ends : c.into_end-end.result ≡ run.new.inlet.end = c.into_end-end.ensures ∙ ap (λ (inlet : LockedInlet _ _ _). inlet.end) c.into_end-back.ensures in
    let sent : HasSent begun task.p c.get-cut.result task.script.now may_stop must_stop c.into_end-end.result run.result.fault = record {
      produced = run.result;
      sends = record {
        some = size_positive c.get-cut.result c.get-cut.ensures.size;
        calls = asked (λ (old : LockedInlet _ _ _) call (new : LockedInlet _ _ _). (new.p ≡ old.p) × InletAsks begun old.p old.end call new.end)
            (InletAsks begun task.p) (λ inlet. inlet.end) (λ inlet. inlet.p ≡ task.p)
            (λ old new call here is. (is.0 ∙ here, subst (λ n. InletAsks begun n old.end call new.end) here is.1))
            {Holds = Sends {E = Event} c.get-cut.result task.script.now may_stop must_stop run.result}
            c.new-inlet.result run.new.inlet no_calls c.into_end-end.result number begins ends run.ensures.sends;
        stopped = run.ensures.stopped;
      };
      answers = refl;
    }
    in
    subst (λ n. HasSent begun task.p n task.script.now may_stop must_stop c.into_end-end.result run.result.fault) c.get-cut.ensures.value sent

pub produce_with-produced-requires : goal.produce_with-produced-requires
produce_with-produced-requires g c = record { cut = size_positive c.get-cut.result c.get-cut.ensures.size }
