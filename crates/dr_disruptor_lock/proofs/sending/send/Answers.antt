use Rattle.std.proofs.Common.{rules, ◌≡◌, ◌/◌, ℕ, max, ap, subst, ◌∙◌}
use Rattle.dr_seq.specs.declared.event.Event.{Event}
use Rattle.dr_lock.specs.Calls.Asking.{InletAsks}
use Rattle.dr_lock.specs.declared.locked.LockedInlet.{LockedInlet}
use Rattle.dr_workers.specs.Calls.Serving.{Sends}
use Rattle.dr_disruptor_lock.specs.declared.sending.Delivered.{Delivered}
use Rattle.dr_lock.proofs.Asked.{asked}
use Rattle.dr_disruptor_lock.proofs.Sends.{sends}
use Rattle.dr_disruptor_lock.proofs.sending.send.Goals as goal

pub returns : goal.returns
returns g c =
    let run = c.produce_with-produced in
    let begun = g.L.Exchange.begun in
    let task = c.args.task in
    let size = c.args.around.now.size in
    let events = c.as_slice-events.result.now in
    let back : Delivered g.row.L.Denot = record { end = c.into_end-end.result; script = c.truncate.new.self; produced = run.result } in
    let cut : c.max-cut.result ≡ max (size / 4) 1 = c.max-cut.ensures ∙ ap (λ (n : ℕ). max (n / 4) 1) c.get.ensures.value in
    let script : events ≡ task.script.items = search rules in
    let number : c.new-inlet.result.p ≡ task.p = ap (λ (inlet : LockedInlet _ _ _). inlet.p) c.new-inlet.ensures ∙ c.new-locked.ensures.number in
    let begins : c.new-inlet.result.end ≡ task.end = ap (λ (inlet : LockedInlet _ _ _). inlet.end) c.new-inlet.ensures ∙ c.new-locked.ensures.end in
    let ends : c.into_end-end.result ≡ run.new.inlet.end = c.into_end-end.ensures ∙ ap (λ (inlet : LockedInlet _ _ _). inlet.end) c.into_end-back.ensures in
    sends begun size c.max-cut.result task events back script cut
    (asked (λ (old : LockedInlet _ _ _) call (new : LockedInlet _ _ _). (new.p ≡ old.p) × InletAsks begun old.p old.end call new.end) (InletAsks begun task.p)
    (λ inlet. inlet.end) (λ inlet. inlet.p ≡ task.p)
    (λ old new call here is. (is.0 ∙ here, subst (λ n. InletAsks begun n old.end call new.end) here is.1))
    {Holds = Sends {E = Event} c.max-cut.result events (λ passage. ⊥) (λ passage. ⊥) run.result}
    c.new-inlet.result run.new.inlet task.end c.into_end-end.result number begins ends run.ensures.sends)
    run.ensures.within run.ensures.all (λ e. (run.ensures.stopped e).1) c.truncate.ensures.items
