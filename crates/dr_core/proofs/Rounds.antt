-- A round of calls: a part of a list is claimed, written and published, and then each handler has a turn. None is refused.
use Rattle.std.proofs.Common.{◌≡◌, ◌≤◌, ◌<◌, ◌+◌, ◌-◌, ◌^◌, ℕ, Bool, true, List, [], length, take, drop, slice_index, Result, Ok, Err, ap, ◌∙◌, sym, subst, arith}
use Rattle.std.specs.Prelude.{slice_index_or, slice_set}
use Rattle.dr_seq.specs.declared.event.Event.{Event}
use Rattle.dr_seq.specs.Event.{no_event}
use Rattle.dr_graph.specs.Meaning.Graph.{finals_without, nobody}
use Rattle.dr_meaning.specs.declared.command.Command.TheVariants.{Claim, Complete, Poll, Publish, Write}
use Rattle.dr_meaning.specs.declared.command.Reply.{Reply}
use Rattle.dr_meaning.specs.declared.command.Reply.TheVariants.{Batch, Claimed, Completed, Drained, Gating, Idle, Published, Refused, Written}
use Rattle.dr_meaning.specs.declared.command.Polled.{Polled}
use Rattle.dr_meaning.specs.declared.command.Polled.TheVariants as answer
use Rattle.dr_meaning.specs.declared.refusal.Refusal.{Refusal}
use Rattle.dr_meaning.specs.Calls.Handling.{GoesThrough, Relation, showings}
use Rattle.dr_meaning.specs.Meaning.Machine.{available, least_completed}
use Rattle.dr_core.specs.Calls.CoreView.{CoreView}
use Rattle.dr_core.specs.Calls.Passing.{Holds, passed, single_setup}
use Rattle.dr_core.specs.Calls.Shows.{IsStep}
use Rattle.dr_core.specs.Calls.Turning.{TakesTurn}
use Rattle.dr_core.proofs.Passing.{Stepped, claims, completes, polls, publishes, stepped, writes}

-- The producer's calls.

module _ (old new : CoreView Event) (graph : List (List ℕ)) (size : ℕ) (events : List Event) (at n : ℕ) (counts : List ℕ) where
  pub claim_ok : (lo hi : ℕ) → at ≤ least_completed (passed events at at at counts counts) (finals_without graph nobody)
      → Holds graph size events at at at counts counts old → 0 < n → n ≤ size → at + n ≤ 2 ^ 62
      → IsStep old (Claim 0 n) (Claimed lo hi) [] new → (lo ≡ at) × (hi ≡ at + n - 1) × Holds graph size events (at + n) at at counts counts new
  claim_ok lo hi gated rests some fits limit is =
      let s = stepped old new (Claim 0 n) (Claimed lo hi) [] (single_setup graph size) (passed events at at at counts counts) _ is rests.setup rests.shows
      (claims graph events size at n counts gated some fits limit) in
      let same : ◌≡◌ {A = Reply} (Claimed at (at + n - 1)) (Claimed lo hi) = s.replies in
      ((let low : lo ≡ at = cc in low), (let high : hi ≡ at + n - 1 = cc in high), record { setup = s.setup; shows = s.shows })

  pub claim_err : (r : Refusal) → at ≤ least_completed (passed events at at at counts counts) (finals_without graph nobody)
      → Holds graph size events at at at counts counts old → 0 < n → n ≤ size → at + n ≤ 2 ^ 62
      → IsStep old (Claim 0 n) (Refused r) [] new → ⊥
  claim_err r gated rests some fits limit is =
      let s = stepped old new (Claim 0 n) (Refused r) [] (single_setup graph size) (passed events at at at counts counts) _ is rests.setup rests.shows
      (claims graph events size at n counts gated some fits limit) in
      let same : ◌≡◌ {A = Reply} (Claimed at (at + n - 1)) (Refused r) = s.replies in
      (let clash : ⊥ = cc in clash)

  pub write_ok : (w : ℕ) (e : Event) → Holds graph size events (at + n) w at counts counts old → at ≤ w → w < at + n
      → e ≡ slice_index_or events w no_event → IsStep old (Write 0 w e) Written [] new
      → Holds graph size events (at + n) (w + 1) at counts counts new
  write_ok w e hand low high here is =
      let s = stepped old new (Write 0 w e) Written [] (single_setup graph size) (passed events (at + n) w at counts counts) _ is hand.setup hand.shows
      (writes graph events size (at + n) w at counts counts e low high here) in
      record { setup = s.setup; shows = s.shows }

  pub write_err : (w : ℕ) (e : Event) (r : Refusal) → Holds graph size events (at + n) w at counts counts old → at ≤ w → w < at + n
      → e ≡ slice_index_or events w no_event → IsStep old (Write 0 w e) (Refused r) [] new → ⊥
  write_err w e r hand low high here is =
      let s = stepped old new (Write 0 w e) (Refused r) [] (single_setup graph size) (passed events (at + n) w at counts counts) _ is hand.setup hand.shows
      (writes graph events size (at + n) w at counts counts e low high here) in
      let same : ◌≡◌ {A = Reply} Written (Refused r) = s.replies in
      (let clash : ⊥ = cc in clash)

  pub publish_ok : (hi : ℕ) → hi ≡ at + n - 1 → Holds graph size events (at + n) (at + n) at counts counts old → 0 < n
      → IsStep old (Publish 0 at hi) Published [] new
      → Holds graph size events (at + n) (at + n) (at + n) counts counts new
  publish_ok hi high hand some is =
      let is_at = subst (λ h. IsStep old (Publish 0 at h) Published [] new) high is in
      let s = stepped old new (Publish 0 at (at + n - 1)) Published [] (single_setup graph size) (passed events (at + n) (at + n) at counts counts) _ is_at hand.setup hand.shows
      (publishes graph events size at n counts counts some) in
      record { setup = s.setup; shows = s.shows }

  pub publish_err : (hi : ℕ) (r : Refusal) → hi ≡ at + n - 1 → Holds graph size events (at + n) (at + n) at counts counts old → 0 < n
      → IsStep old (Publish 0 at hi) (Refused r) [] new → ⊥
  publish_err hi r high hand some is =
      let is_at = subst (λ h. IsStep old (Publish 0 at h) (Refused r) [] new) high is in
      let s = stepped old new (Publish 0 at (at + n - 1)) (Refused r) [] (single_setup graph size) (passed events (at + n) (at + n) at counts counts) _ is_at hand.setup hand.shows
      (publishes graph events size at n counts counts some) in
      let same : ◌≡◌ {A = Reply} Published (Refused r) = s.replies in
      (let clash : ⊥ = cc in clash)

-- A handler's turn.

-- events are there that it has not taken
pub record CanTurn (graph : List (List ℕ)) (size : ℕ) (events : List Event) (at sent h : ℕ) (counts : List ℕ) (old : CoreView Event) : Type 0 where
  pub holds : Holds graph size events sent sent sent counts counts old
  pub handler : h < length graph
  pub counted : h < length counts
  pub taken : slice_index counts h ≡ at
  pub offered : available (single_setup graph size) (passed events sent sent sent counts counts) h ≡ sent
  pub some : at < sent
  pub fits : sent ≤ at + size
  pub within : sent ≤ length events

-- it is done with all that was sent, and was shown what it had not taken
pub record TookTurn {A : Type 0} (goes : Relation Event A) (graph : List (List ℕ)) (size : ℕ)
    (events : List Event) (at sent h : ℕ) (counts : List ℕ) (new : CoreView Event) (before after : A) : Type 0 where
  pub holds : Holds graph size events sent sent sent (slice_set counts h sent) (slice_set counts h sent) new
  pub went : GoesThrough goes before (showings (take (sent - at) (drop at events)) at true) after

module _ {A : Type 0} (goes : Relation Event A) (graph : List (List ℕ)) (size : ℕ) (events : List Event) (at sent h : ℕ) (counts : List ℕ) (old new : CoreView Event) (before after : A)
    (can : CanTurn graph size events at sent h counts old) where
  -- the machine's answer
  answers : (reply : Reply) (values : List Event) (polled : CoreView Event) → IsStep old (Poll h old.setup.size) reply values polled
      → Stepped (record {
        reply = Batch at (sent - at) true;
        values = take (sent - at) (drop at events);
        state = passed events sent sent sent (slice_set counts h sent) counts;
      }) reply values (single_setup graph size) polled
  answers reply values polled is =
      let some = can.some in
      let fits = can.fits in
      let ring : old.setup.size ≡ size = ap (λ s. s.size) can.holds.setup in
      let open_room : 0 < old.setup.size = omega arith in
      let enough : sent - at ≤ old.setup.size = omega arith in
      stepped old polled (Poll h old.setup.size) reply values (single_setup graph size) (passed events sent sent sent counts counts) _ is can.holds.setup can.holds.shows
      (polls graph events size sent at h old.setup.size counts can.handler open_room can.taken can.offered can.some enough can.within)

  batch_turn : (first count : ℕ) (end : Bool) (values : List Event)
      → TakesTurn goes old h old.setup.size (Ok (answer.Batch first count end)) values new before after
      → TookTurn goes graph size events at sent h counts new before after
  batch_turn first count end values turn =
      let some = can.some in
      let polled = answers (Batch first count end) values turn.0 turn.1 in
      let same : ◌≡◌ {A = Reply} (Batch at (sent - at) true) (Batch first count end) = polled.replies in
      let first_is : first ≡ at = cc in
      let count_is : count ≡ sent - at = cc in
      let end_is : end ≡ true = cc in
      let upto : first + count ≡ sent = omega arith in
      let complete = subst (λ c. IsStep turn.0 (Complete h c) Completed [] new) upto turn.2 in
      let done = stepped turn.0 new (Complete h sent) Completed [] (single_setup graph size) (passed events sent sent sent (slice_set counts h sent) counts) _ complete polled.setup polled.shows
      (completes graph events size sent at h counts can.handler can.counted can.taken can.some) in
      let shown : showings values first end ≡ showings (take (sent - at) (drop at events)) at true =
      ap (λ v. showings v first end) (sym polled.hands_out)
      ∙ ap (λ f. showings (take (sent - at) (drop at events)) f end) first_is
      ∙ ap (λ b. showings (take (sent - at) (drop at events)) at b) end_is in
      record { holds = record { setup = done.setup; shows = done.shows }; went = subst (λ l. GoesThrough goes before l after) shown turn.3 }

  -- it is a batch
  pub took_turn : (result : Result Polled Refusal) (values : List Event) → TakesTurn goes old h old.setup.size result values new before after
      → TookTurn goes graph size events at sent h counts new before after
  took_turn (Ok (answer.Batch first count end)) values turn = batch_turn first count end values turn
  took_turn (Ok answer.Drained) values turn = let clash : ◌≡◌ {A = Reply} (Batch at (sent - at) true) Drained = (answers Drained [] new turn.0).replies in cc
  took_turn (Ok answer.Gating) values turn = let clash : ◌≡◌ {A = Reply} (Batch at (sent - at) true) Gating = (answers Gating [] new turn.0).replies in cc
  took_turn (Ok answer.Idle) values turn = let clash : ◌≡◌ {A = Reply} (Batch at (sent - at) true) Idle = (answers Idle [] new turn.0).replies in cc
  took_turn (Err r) values turn = let clash : ◌≡◌ {A = Reply} (Batch at (sent - at) true) (Refused r) = (answers (Refused r) [] new turn.0).replies in cc

  -- and no refusal
  pub no_refusal : (r : Refusal) (values : List Event) → TakesTurn goes old h old.setup.size (Err r) values new before after → ⊥
  no_refusal r values turn = let clash : ◌≡◌ {A = Reply} (Batch at (sent - at) true) (Refused r) = (answers (Refused r) [] new turn.0).replies in cc
