-- What threads gave back that kept their promises.
use Rattle.std.proofs.Common.{◌≡◌, ℕ, ◌<◌, List, length, map, get_or, Result, Ok, Err, sym, ap, subst, ◌∙◌, arith}
use Rattle.std.specs.Prelude.{IfErr, IfOk}
use mathlib.Core.Option.{some}
use lib.ListN.{get_elem?, length-map}
use Rattle.atomic_table.proofs.Lists.{at_map}
use Rattle.dr_seq.specs.declared.event.Event.{Event}
use Rattle.dr_meaning.specs.Calls.Handling.{Relation}
use Rattle.dr_runs.proofs.Elements.{at_below, at_index, value_at}
use Rattle.dr_lock.specs.Calls.Lock.{EndView, HasHalted}
use Rattle.dr_lock.specs.Meaning.History.{History}
use Rattle.dr_disruptor_lock.specs.declared.jobs.Job.{Job}
use Rattle.dr_disruptor_lock.specs.declared.jobs.Task.{Task}
use Rattle.dr_disruptor_lock.specs.declared.sending.Delivered.{Delivered}
use Rattle.dr_disruptor_lock.specs.declared.serving.Served.{Served}
use Rattle.dr_disruptor_lock.specs.declared.workers.Joined.{Joined}
use Rattle.dr_disruptor_lock.specs.Joining.{AreSent, AreServed, ComesBack}
use Rattle.dr_disruptor_lock.specs.Serving.{Producer, Sending, Serving, Worker, given_job, given_size, given_task}

module _ {W B : Type 0} (Keeps : W → B → Type 0) where
  -- each kept the promise of the handle at its place
  abbrev pub EachKeeps : List W → List B → Type 0
  EachKeeps workers backs = (h : ℕ) (back : B) → h < length backs → (w : W) × (w ≡ get_or workers h w) × Keeps w (get_or backs h back)

  pub kept_at : (workers : List W) (backs : List B) → length backs ≡ length workers → EachKeeps workers backs
      → (h : ℕ) (back : B) → get_elem? backs h ≡ some back → (w : W) × (get_elem? workers h ≡ some w) × Keeps w back
  kept_at workers backs many each h back at =
      let below : h < length backs = at_below backs h back at in
      let (w, is, kept) = each h back below in
      (w, at_index workers h w (omega arith) is, subst (Keeps w) (value_at backs h back back at) kept)

-- all tasks were done by those who promised it
pub are_sent : {L : Type 0} (begun : History Event) (size : ℕ) (workers : List (Producer L)) (tasks : List (Task L)) (sent : List (Delivered L))
    → map given_task workers ≡ tasks
    → ((h : ℕ) (w : Producer L) → get_elem? workers h ≡ some w → given_size w ≡ size) → length sent ≡ length workers
    → EachKeeps (λ (w : Producer L) (back : Delivered L). Sending begun (given_size w) (given_task w) back) workers sent → AreSent begun size tasks sent
are_sent {L} begun size workers tasks sent given sizes many each = record {
  many = many ∙ sym (length-map workers given_task) ∙ ap length given;
  each = λ p back at.
      let (w, at_w, sending) = kept_at (λ (w : Producer L) (back : Delivered L). Sending begun (given_size w) (given_task w) back) workers sent many each p back at in (
        given_task w,
        ap (λ (l : List (Task L)). get_elem? l p) (sym given) ∙ at_map given_task workers p w at_w,
        subst (λ (n : ℕ). Sending begun n (given_task w) back) (sizes p w at_w) sending,
      );
}

-- and all jobs
pub are_served : {L A : Type 0} (begun : History Event) (goes : Relation Event A) (workers : List (Worker L A)) (served : List (Served L A))
    → length served ≡ length workers
    → EachKeeps (λ (w : Worker L A) (back : Served L A). Serving begun goes (given_job w) back) workers served → AreServed begun goes (map given_job workers) served
are_served {L} {A} begun goes workers served many each = record {
  many = many ∙ sym (length-map workers given_job);
  each = λ h back at.
      let (w, at_w, serving) = kept_at (λ (w : Worker L A) (back : Served L A). Serving begun goes (given_job w) back) workers served many each h back at in
      (given_job w, at_map given_job workers h w at_w, serving);
}

pub comes_back : {L A : Type 0} (begun : History Event) (size : ℕ) (goes : Relation Event A) (halter : EndView Event) (workers : List (Worker L A))
    (jobs : List (Job L A)) (tasks : List (Task L)) (r : Result (Joined L A) (EndView Event)) → map given_job workers ≡ jobs
    → IfOk r (λ joined. HasHalted halter joined.halter) → IfErr r (λ halted. HasHalted halter halted) → IfOk r (λ joined. AreSent begun size tasks joined.sent.items)
    → IfOk r (λ joined. AreServed begun goes (map given_job workers) joined.served.items) → ComesBack begun size goes halter jobs tasks r
comes_back {L} {A} begun size goes halter workers jobs tasks (Ok joined) given halted lacking sent served =
    record { halted = halted; served = subst (λ (l : List (Job L A)). AreServed begun goes l joined.served.items) given served; sent = sent }
comes_back begun size goes halter workers jobs tasks (Err end) given halted lacking sent served = lacking
