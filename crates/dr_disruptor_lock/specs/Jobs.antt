-- What the workers of a run are given.
use Rattle.std.specs.Prelude.{◌≡◌, ℕ, ◌<◌, List, length, slice_index_or, vec_capacity}
use Rattle.dr_lock.specs.Calls.Lock.{no_calls}
use Rattle.dr_disruptor_lock.specs.declared.jobs.Job.{Job}
use Rattle.dr_disruptor_lock.specs.declared.jobs.Task.{Task}
use Rattle.dr_disruptor_lock.specs.Watching.{IsNew}

-- the job of the handler h: an end through which nobody has called, and a handler that was shown nothing, with room to list so many events
abbrev pub IsJobOf : {L A : Type 0} → ℕ → ℕ → Job L A → Type 0
IsJobOf room h j = (j.who ≡ h) × (j.end ≡ no_calls) × IsNew j.watching.handler j.watching × (vec_capacity j.watching.list ≡ room)

-- the task of the producer p: an end through which nobody has called
abbrev pub IsTaskOf : {L : Type 0} → ℕ → Task L → Type 0
IsTaskOf p t = (t.p ≡ p) × (t.end ≡ no_calls)

-- each is that of the handler, or of the producer, at its place
abbrev pub AreJobs : {L A : Type 0} → ℕ → List (Job L A) → Type 0
AreJobs {L} {A} room jobs = (k : ℕ) (d : Job L A) → k < length jobs → IsJobOf room k (slice_index_or jobs k d)

abbrev pub AreTasks : {L : Type 0} → List (Task L) → Type 0
AreTasks {L} tasks = (k : ℕ) (d : Task L) → k < length tasks → IsTaskOf k (slice_index_or tasks k d)
