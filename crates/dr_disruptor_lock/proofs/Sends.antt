-- What a sender's worker did, of the task that it was given.
use Rattle.std.proofs.Common.{◌≡◌, ◌≢◌, ℕ, ◌/◌, ◌≤◌, max, List, length, take, Some, subst}
use Rattle.std.specs.Prelude.{IfNone}
use Rattle.dr_seq.specs.declared.event.Event.{Event}
use Rattle.dr_meaning.specs.Calls.Calling.{SomeCalls}
use Rattle.dr_workers.specs.Calls.Serving as worker
use Rattle.dr_workers.specs.declared.fault.WorkFault.TheVariants.{Stopped}
use Rattle.dr_lock.specs.Calls.Asking.{InletAsks}
use Rattle.dr_lock.specs.Meaning.History.{History}
use Rattle.dr_disruptor_lock.specs.declared.jobs.Task.{Task}
use Rattle.dr_disruptor_lock.specs.declared.sending.Delivered.{Delivered}
use Rattle.dr_disruptor_lock.specs.Serving.{Sending}

module _ {L : Type 0} (begun : History Event) (size cut : ℕ) (task : Task L) (events : List Event) (back : Delivered L) (same : events ≡ task.script.items)
    (is : cut ≡ max (size / 4) 1) where
  pub sends : SomeCalls (InletAsks begun task.p) task.end back.end (worker.Sends cut events (λ passage. ⊥) (λ passage. ⊥) back.produced)
      → back.produced.sent ≤ length events
      → IfNone back.produced.fault (back.produced.sent ≡ length events) → back.produced.fault ≢ Some Stopped
      → back.script.items ≡ take back.produced.sent task.script.items
      → Sending begun size task back
  sends calls within all stopped script = record {
    calls = subst (λ (n : ℕ). SomeCalls (InletAsks begun task.p) task.end back.end (worker.Sends n task.script.items (λ passage. ⊥) (λ passage. ⊥) back.produced)) is
        (subst (λ (l : List Event). SomeCalls (InletAsks begun task.p) task.end back.end (worker.Sends cut l (λ passage. ⊥) (λ passage. ⊥) back.produced)) same calls);
    within = subst (λ (l : List Event). back.produced.sent ≤ length l) same within;
    all = subst (λ (l : List Event). IfNone back.produced.fault (back.produced.sent ≡ length l)) same all;
    stopped = stopped;
    script = script;
  }
