-- A poll hands out what is available, or as much as it asks for.
use Rattle.std.proofs.Common.{◌≡◌, ◌<◌, ◌≤◌, ◌+◌, ◌-◌, ℕ, Bool, true, ◌&&◌, inl, inr, List, [], ◌∷◌, length, take, min, Result, Ok, Err, subst, arith, slice_index}
use Rattle.std.specs.Prelude.{◌⊎◌, ◌==◌, nat_lt}
use Rattle.std.proofs.lemmas.Bool.{cond_both, cases_lt, eq-eqb}
use Rattle.std.proofs.lemmas.Bool.Decides.{nat_tests}
use Rattle.std.proofs.lemmas.List.{length-take-le}
use Rattle.dr_seq.specs.declared.event.Event.{Event}
use Rattle.dr_meaning.specs.declared.command.Command.TheVariants.{Poll}
use Rattle.dr_meaning.specs.declared.command.Reply.{Reply}
use Rattle.dr_meaning.specs.declared.command.Reply.TheVariants as reply
use Rattle.dr_meaning.specs.declared.command.Polled.{Polled}
use Rattle.dr_meaning.specs.declared.command.Polled.TheVariants.{Batch, Drained, Gating, Idle}
use Rattle.dr_meaning.specs.Calls.Calling.{CallsLead, OutletCall, PollsInto, CompletesBelow}
use Rattle.dr_meaning.specs.declared.ends.Trouble.{Trouble}
use Rattle.dr_meaning.specs.Meaning.Machine.{Outcome, Setup, State, accepted, available, cursor, next, refusals, step}
use Rattle.dr_meaning.proofs.Steps.{unless-cases}
use Rattle.dr_workers.specs.Calls.Serving.{Due, InTurn, IsNextCall, NoCall, ToComplete, ToPoll, due_after}
use Rattle.dr_workers.specs.Meaning.Work.{batches_in}
use Rattle.dr_lock.specs.Calls.Asking.{OutletAsks}
use Rattle.dr_lock.specs.Calls.Lock.{EndView, IsAnswer}
use Rattle.dr_lock.specs.Meaning.History.{History}
use Rattle.dr_lock.proofs.Replies.{poll_tells}
use Rattle.dr_disruptor_lock.proofs.Watched.{AreFull, IsFull}

-- a batch ends what is available, or has as many events as were asked for
abbrev EndsOrFills : ℕ → Reply → Type 0
EndsOrFills max (reply.Batch first count end) = (end ≡ true) ⊎ (count ≡ max)
EndsOrFills max other = Unit {0}

batch_fills : {E : Type 0} (c : Setup) (m : State E) (h max : ℕ) → EndsOrFills max (accepted c m (Poll h max)).reply
batch_fills {E} c m h max =
    let P : Outcome E → Type 0 = λ o. EndsOrFills max o.reply in
    cond_both (nat_lt (slice_index m.taken h) (available c m h)) _ _ P
    (λ y.
    let less : slice_index m.taken h < available c m h = grind (arith, nat_tests, y) in
    elim (cases_lt max (available c m h - slice_index m.taken h)) [
      | inl more ↦ inr (let fills : min (available c m h - slice_index m.taken h) max ≡ max = omega arith in fills)
      | inr all ↦ inl (eq-eqb (slice_index m.taken h + min (available c m h - slice_index m.taken h) max) (available c m h) (omega arith))
    ])
    (λ n. cond_both (m.halted && (slice_index m.taken h == next m)) _ _ P (λ y. tt)
    (λ n'. cond_both (nat_lt (slice_index m.taken h) (cursor c m)) _ _ P (λ y. tt) (λ n''. tt)))

step_fills : {E : Type 0} (c : Setup) (m : State E) (h max : ℕ) → EndsOrFills max (step c m (Poll h max)).reply
step_fills {E} c m h max =
    unless-cases (λ (o : Outcome E). EndsOrFills max o.reply) (refusals c m (Poll h max)) m (accepted c m (Poll h max)) (λ r. tt) (λ none. batch_fills c m h max)

answer_fills : {E : Type 0} (b : History E) (h max : ℕ) (answer : Reply) (values : List E) → IsAnswer b (Poll h max) answer values → EndsOrFills max answer
answer_fills b h max answer values is = subst (EndsOrFills max) is.replies (step_fills is.before.core.setup is.recorded.runs.state h max)

-- a poll comes where one is due
room_of : (room : ℕ) (due : Due) (before after : List Event) (answer : Result Polled Trouble) → IsNextCall room due (PollsInto before after answer)
    → (length before ≡ room) × (length after ≡ room)
room_of room ToPoll before after answer next = next
room_of room (ToComplete upto) before after answer next = absurd next
room_of room NoCall before after answer next = absurd next

module _ (begun : History Event) (h : ℕ) where
  one_full : (room first count : ℕ) (end : Bool) (a b : EndView Event) (before after : List Event) → length before ≡ room → length after ≡ room
      → OutletAsks begun h a (PollsInto before after (Ok (Batch first count end))) b → IsFull room (record { first = first; events = take count after; end = end })
  one_full room first count end a b before after long longer is =
      let answer : IsAnswer begun (Poll h (length before)) (reply.Batch first count end) (take count after) = is.0 in
      let tells = poll_tells begun h (length before) (reply.Batch first count end) (take count after) answer in
      let some : 0 < count = tells.1 in
      let fits : count ≤ length before = tells.2 in
      let taken : length (take count after) ≡ count = length-take-le count after (omega arith) in
      let fills : (end ≡ true) ⊎ (count ≡ length before) = answer_fills begun h (length before) (reply.Batch first count end) (take count after) answer in (
        omega arith,
        omega arith,
        elim fills [
          | inl ends ↦ inl ends
          | inr all ↦ inr (omega arith)
        ],
      )

  pub all_full : (room : ℕ) (due : Due) (a b : EndView Event) (calls : List (OutletCall Event)) → CallsLead (OutletAsks begun h) a calls b → InTurn room due calls
      → AreFull room (batches_in calls)
  all_full room due a b [] lead order = tt
  all_full room due a b (PollsInto before after (Ok (Batch first count end)) ∷ calls) lead order =
      let rooms = room_of room due before after (Ok (Batch first count end)) order.0 in (
        one_full room first count end a lead.0 before after rooms.0 rooms.1 lead.1,
        all_full room (due_after due (PollsInto before after (Ok (Batch first count end)))) lead.0 b calls lead.2 order.1,
      )
  all_full room due a b (PollsInto before after (Ok Drained) ∷ calls) lead order =
      all_full room (due_after due (PollsInto before after (Ok Drained))) lead.0 b calls lead.2 order.1
  all_full room due a b (PollsInto before after (Ok Gating) ∷ calls) lead order =
      all_full room (due_after due (PollsInto before after (Ok Gating))) lead.0 b calls lead.2 order.1
  all_full room due a b (PollsInto before after (Ok Idle) ∷ calls) lead order =
      all_full room (due_after due (PollsInto before after (Ok Idle))) lead.0 b calls lead.2 order.1
  all_full room due a b (PollsInto before after (Err trouble) ∷ calls) lead order =
      all_full room (due_after due (PollsInto before after (Err trouble))) lead.0 b calls lead.2 order.1
  all_full room due a b (CompletesBelow upto answer ∷ calls) lead order =
      all_full room (due_after {E = Event} due (CompletesBelow upto answer)) lead.0 b calls lead.2 order.1
