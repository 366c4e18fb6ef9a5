-- A turn over the events where they lie: all that is offered is taken, shown and completed.
use Rattle.std.proofs.Common.{◌≡◌, ℕ, ◌+◌, ◌-◌, ◌<◌, ◌≤◌, min, true, List, [], arith, refl, subst, length, map, slice_index, slice_set, Some, Ok}
use Rattle.std.specs.Prelude.{◌==◌}
use Rattle.std.specs.List.{range_with_len}
use Rattle.std.proofs.lemmas.Bool.{eq-eqb}
use Rattle.std.proofs.lemmas.List.{get_or-set_same}
use Rattle.dr_meaning.specs.declared.command.Command.TheVariants.{Poll, Complete}
use Rattle.dr_meaning.specs.declared.command.Reply.TheVariants.{Batch, Completed}
use Rattle.dr_graph.specs.Meaning.Graph.{upstreams_of}
use Rattle.dr_meaning.specs.Meaning.Machine.{handlers}
use Rattle.dr_core.specs.Calls.CoreView.{CoreView, known_at}
use Rattle.dr_core.specs.Inside.Availability.{is_shown, event_known}
use Rattle.dr_core.specs.Inside.Fields.{IsWhole, IsNothing}
use Rattle.dr_core.specs.Calls.Shows.{IsStep, CanComplete, offered_to}
use Rattle.dr_meaning.specs.Calls.Replies.{poll_reply}
use Rattle.dr_meaning.specs.Calls.Handling.{Relation}
use Rattle.dr_core.specs.Calls.Turning.{TakesTurn}
use Rattle.dr_meaning.specs.declared.command.Polled.{Polled}
use Rattle.dr_meaning.specs.declared.command.Polled.TheVariants as answer
use Rattle.dr_core.proofs.CoreSteps.{complete_step, completed_grows}
use Rattle.dr_core.proofs.Polling.{PollsAt, batch_step, offered_front}
use Rattle.dr_core.proofs.Whole.{step_whole}

-- what the turn leaves
abbrev pub turned : {E : Type 0} → CoreView E → ℕ → ℕ → CoreView E
turned v h to = record v { taken = slice_set v.taken h to; completed = slice_set v.completed h to }

-- all that is offered is taken
abbrev pub took_all : {E : Type 0} → CoreView E → ℕ → ℕ → CoreView E
took_all v h to = record v { taken = slice_set v.taken h to }

pub record Turns {E : Type 0} (v : CoreView E) (h first to : ℕ) (values : List E) : Type 0 where
  pub polls : IsStep v (Poll h v.setup.size) (Batch first (to - first) true) values (took_all v h to)
  pub completes : IsStep (took_all v h to) (Complete h (first + (to - first))) Completed [] (turned v h to)
  pub whole : IsWhole (turned v h to)
  pub grows : (k : ℕ) → slice_index v.completed k ≤ slice_index (slice_set v.completed h to) k

module _ {E : Type 0} (v : CoreView E) (h first to : ℕ) (at : PollsAt v h v.setup.size first to) (more : first < to) where
  within : to - first ≤ v.setup.size
  within =
      let offers : offered_to v (upstreams_of v.setup.upstreams h) ≤ v.front = offered_front v at.whole (upstreams_of v.setup.upstreams h) in
      let claimed : v.front ≤ v.next = at.whole.front in
      let room : v.next ≤ v.setup.size + slice_index v.completed h = at.whole.room h at.inside at.left in
      let took : slice_index v.completed h ≤ slice_index v.taken h = at.whole.took h in
      let is : first ≡ slice_index v.taken h = at.taken in
      let all : to ≡ offered_to v (upstreams_of v.setup.upstreams h) = at.offered in
      omega arith

  can_complete : CanComplete (took_all v h to) h to
  can_complete =
      let took : slice_index v.completed h ≤ slice_index v.taken h = at.whole.took h in
      let is : first ≡ slice_index v.taken h = at.taken in
      let len : length v.taken ≡ handlers v.setup = at.whole.taken_len in
      let inside : h < handlers v.setup = at.inside in
      let here : slice_index (slice_set v.taken h to) h ≡ to = get_or-set_same v.taken h to 0 (omega arith) in
      record { handler = at.inside; left = at.left; completed = omega arith; taken = omega arith }

  pub turns : (event : ℕ → E)
      → ((k : ℕ) → k < v.next → v.next ≤ k + v.setup.size → is_shown (known_at v k) ≡ true → Some (event k) ≡ event_known (known_at v k))
      → Turns v h first to (map event (range_with_len first (to - first)))
  turns event holds =
      let fits : to - first ≤ v.setup.size = within in
      let same : first + (to - first) ≡ to = omega arith in
      let count : to - first ≡ min (to - first) v.setup.size = omega arith in
      let open_up : slice_index v.taken h < offered_to v (upstreams_of v.setup.upstreams h) =
      (let is : first ≡ slice_index v.taken h = at.taken in let all : to ≡ offered_to v (upstreams_of v.setup.upstreams h) = at.offered in omega arith) in
      let values : List E = map event (range_with_len first (to - first)) in
      let step : IsStep v (Poll h v.setup.size) (Batch first (to - first) (first + (to - first) == to)) values (record v { taken = slice_set v.taken h (first + (to - first)) }) =
      batch_step v h v.setup.size at.whole at.inside at.left at.some open_up first (to - first) to event holds at.taken at.offered count in
      let polls : IsStep v (Poll h v.setup.size) (Batch first (to - first) true) values (took_all v h to) =
      subst (λ b. IsStep v (Poll h v.setup.size) (Batch first (to - first) b) values (took_all v h to)) (eq-eqb _ _ same)
      (subst (λ n. IsStep v (Poll h v.setup.size) (Batch first (to - first) (first + (to - first) == to)) values (record v { taken = slice_set v.taken h n })) same step) in
      let done : IsStep (took_all v h to) (Complete h to) Completed [] (turned v h to) = complete_step (took_all v h to) h to can_complete in
      let polled : IsWhole (took_all v h to) = step_whole polls refl at.whole in
      record {
        polls = polls;
        completes = rw same done;
        whole = step_whole done refl polled;
        grows = completed_grows (took_all v h to) h to polled can_complete;
      }

-- an answer that hands nothing out reaches no handler
pub nothing_turn : {E A : Type 0} (goes : Relation E A) (v w : CoreView E) (h room first : ℕ) (said : Polled) (a : A) → IsNothing v first said
    → IsStep v (Poll h room) (poll_reply (Ok said)) [] w → TakesTurn goes v h room (Ok said) [] w a a
nothing_turn goes v w h room first (answer.Batch start count end) a is step = absurd is
nothing_turn goes v w h room first answer.Drained a is step = (step, refl)
nothing_turn goes v w h room first answer.Gating a is step = (step, refl)
nothing_turn goes v w h room first answer.Idle a is step = (step, refl)
