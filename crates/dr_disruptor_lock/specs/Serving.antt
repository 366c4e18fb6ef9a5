-- What the workers of handlers and of senders promise.
use Rattle.std.specs.Prelude.{◌≡◌, ◌≢◌, ℕ, ◌≤◌, ◌/◌, max, length, take, None, Some, IfNone}
use Rattle.std.specs.declared.thread.PromisedHandle.{PromisedHandle}
use Rattle.dr_seq.specs.declared.event.Event.{Event}
use Rattle.dr_meaning.specs.Calls.Calling.{SomeCalls}
use Rattle.dr_meaning.specs.Calls.Handling.{Relation}
use Rattle.dr_workers.specs.Calls.Serving as worker
use Rattle.dr_workers.specs.declared.fault.WorkFault.TheVariants.{Memory, Stopped}
use Rattle.dr_lock.specs.Calls.Asking.{InletAsks, OutletAsks}
use Rattle.dr_lock.specs.Meaning.History.{History}
use Rattle.dr_disruptor_lock.specs.declared.jobs.Job.{Job}
use Rattle.dr_disruptor_lock.specs.declared.jobs.Task.{Task}
use Rattle.dr_disruptor_lock.specs.declared.sending.SendsPromise.{SendsPromise}
use Rattle.dr_disruptor_lock.specs.declared.sending.Delivered.{Delivered}
use Rattle.dr_disruptor_lock.specs.declared.serving.Served.{Served}
use Rattle.dr_disruptor_lock.specs.declared.serving.ServesPromise.{ServesPromise}
use Rattle.dr_disruptor_lock.specs.Watching.{Watches}

-- a worker's calls, each poll with room for 256 events, took a handler through exactly what its end handed out, each as a call of that handler, and it gave both back with the fault that these calls came to. With an open gate nobody stops it, and it waits where memory runs out
pub record Serving {L A : Type 0} (begun : History Event) (goes : Relation Event A) (job : Job L A) (back : Served L A) : Type 0 where
  pub calls : SomeCalls (OutletAsks begun job.who) job.end back.end
      (worker.Serves 256 (Watches goes) job.watching back.watching None None (λ passage. ⊥) (λ passage. ⊥) back.fault)
  pub stopped : back.fault ≢ Some Stopped
  pub memory : back.fault ≢ Some Memory

-- a worker's calls sent a script in claims of a quarter of the slots, each as a call of that producer, as much of it as it says and all of it where it has no fault, and it gave back its end and what it sent. With an open gate nobody stops it
pub record Sending {L : Type 0} (begun : History Event) (size : ℕ) (task : Task L) (back : Delivered L) : Type 0 where
  pub calls : SomeCalls (InletAsks begun task.p) task.end back.end
      (worker.Sends (max (size / 4) 1) task.script.items (λ passage. ⊥) (λ passage. ⊥) back.produced)
  pub within : back.produced.sent ≤ length task.script.items
  pub all : IfNone back.produced.fault (back.produced.sent ≡ length task.script.items)
  pub stopped : back.produced.fault ≢ Some Stopped
  pub script : back.script.items ≡ take back.produced.sent task.script.items

-- a sender's thread, the task that it was given and the number of slots
abbrev pub Producer : Type 0 → Type 0
Producer L = PromisedHandle (Delivered L) (SendsPromise L)

abbrev pub given_task : {L : Type 0} → Producer L → Task L
given_task w = w.promise.task.value

abbrev pub given_size : {L : Type 0} → Producer L → ℕ
given_size w = w.promise.size

-- a handler's thread, and the job that it was given
abbrev pub Worker : Type 0 → Type 0 → Type 0
Worker L A = PromisedHandle (Served L A) (ServesPromise L A)

abbrev pub given_job : {L A : Type 0} → Worker L A → Job L A
given_job w = w.promise.job.value
