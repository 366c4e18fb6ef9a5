use Rattle.std.proofs.Common.{◌≡◌, None, subst, ◌∙◌}
use Rattle.dr_lock.specs.Calls.Asking.{OutletAsks}
use Rattle.dr_lock.specs.declared.locked.LockedOutlet.{LockedOutlet}
use Rattle.dr_workers.specs.Calls.Serving.{Serves}
use Rattle.dr_lock.proofs.Asked.{asked}
use Rattle.dr_disruptor_lock.specs.Watching.{Watches}
use Rattle.dr_disruptor_lock.proofs.serving.serve.Goals as goal

pub returns : goal.returns
returns g c =
    let run = c.serve-back in
    let begun = g.L.Exchange.begun in
    let job = c.args.job in
    record {
      calls = asked (λ (old : LockedOutlet _ _ _) call (new : LockedOutlet _ _ _). (new.h ≡ old.h) × OutletAsks begun old.h old.end call new.end)
          (OutletAsks begun job.who) (λ outlet. outlet.end) (λ outlet. outlet.h ≡ job.who)
          (λ old new call here is. (is.0 ∙ here, subst (λ n. OutletAsks begun n old.end call new.end) here is.1))
          {Holds = Serves 256 (Watches g.H.InPlaceHandler.goes) job.watching run.new.handler None None (λ passage. ⊥) (λ passage. ⊥) run.result.1}
          c.new-locked.result run.result.0 job.end c.into_end-end.result c.new-locked.ensures.number c.new-locked.ensures.end c.into_end-end.ensures
          run.ensures.serves;
      stopped = λ e. (run.ensures.stopped e).1;
      memory = run.ensures.waits;
    }
