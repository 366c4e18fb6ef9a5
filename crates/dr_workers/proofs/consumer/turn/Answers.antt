use Rattle.std.proofs.Common.{◌≡◌, ◌+◌, ◌∙◌, ℕ, List, None, Option, Result, ap, length, refl, subst, sym, Ok, Err}
use Rattle.std.proofs.lemmas.List.{length-take-le}
use Rattle.std.proofs.lemmas.Result.{err_from_is_err_and}
use Rattle.dr_meaning.specs.declared.command.Polled.{Polled}
use Rattle.dr_meaning.specs.declared.command.Polled.TheVariants as polled
use Rattle.dr_meaning.specs.declared.ends.Trouble.{Trouble}
use Rattle.dr_meaning.specs.declared.ends.Trouble.TheVariants.{Memory, Refused}
use Rattle.dr_meaning.specs.Calls.Calling.{OutletCall, PollsInto, SomeCalls}
use Rattle.dr_meaning.specs.Calls.Ends.{Received, Takes, WhereShown}
use Rattle.dr_meaning.specs.Calls.Handling.{Relation}
use Rattle.dr_workers.specs.declared.consumer.Progress.{Progress}
use Rattle.dr_workers.specs.declared.consumer.Progress.TheVariants.{Drained, GoesOn}
use Rattle.dr_workers.specs.declared.passages.Passages.{Passages}
use Rattle.dr_workers.specs.Calls.Serving.{IsInTrouble, IsTold, ToPoll, due_after}
use Rattle.dr_workers.specs.Calls.Waits.{Attends, Bides}
use Rattle.dr_workers.specs.Inside.Retries.{TakesBatch}
use Rattle.dr_workers.specs.Meaning.Work.{batch_of}
use Rattle.dr_workers.proofs.Biding.{completing, end_with}
use Rattle.dr_workers.proofs.Serving.{turned_batch, turned_nothing}
use Rattle.dr_workers.proofs.Working.{dealt, done_batch, works_batch, works_shown}
use Rattle.dr_workers.proofs.consumer.turn.Goals as goal

-- a poll, and what it makes of the patience
module _ {S P E : Type 0} (does : S → OutletCall E → S → Type 0) (waits : P → P → Type 0) (finds : P → ℕ → P → Type 0)
    (a b : S) (p q : P) (out out' : List E) (found answer : Result Polled Trouble) (is : found ≡ answer)
    (called : does a (PollsInto out out' found) b) (bides : Bides waits finds p answer q) where
  came : Attends does waits finds (end_with a p) (PollsInto out out' answer) (end_with b q)
  came = (subst (λ r. does a (PollsInto out out' r) b) is called, bides)

  -- where it hands nothing out
  nothing_came : {A : Type 0} (goes : Relation E A) (handler : A) (received : S → Option (Received E)) (may_stop must_stop : ℕ → ℕ → Type 0)
      (passages : Passages) (result : Result Progress Trouble) → batch_of (PollsInto out out' answer) ≡ None → length out' ≡ length out
      → WhereShown (Takes out' found) (received a) (received b)
      → (result ≡ Ok GoesOn → due_after ToPoll (PollsInto out out' answer) ≡ ToPoll) → (result ≡ Ok Drained → IsTold (PollsInto out out' answer))
      → ((trouble : Trouble) → result ≡ Err trouble → IsInTrouble trouble (PollsInto out out' answer))
      → SomeCalls (Attends does waits finds) (end_with a p) (end_with b q)
      (TakesBatch (length out) goes handler handler (received a) (received b) may_stop must_stop passages passages result)
  nothing_came goes handler received may_stop must_stop passages result none same takes =
      turned_nothing (Attends does waits finds) goes handler (end_with a p) (end_with b q) (received a) (received b) may_stop must_stop passages
      result out out' answer came none same (subst (λ r. WhereShown (Takes out' r) (received a) (received b)) is takes)

pub returns-in_err-complete-in-Ok-Batch-clause-takes : goal.returns-in_err-complete-in-Ok-Batch-clause-takes
returns-in_err-complete-in-Ok-Batch-clause-takes g c =
    let b = c.in-Ok-Batch in
    let out = c.poll_into.new.out in
    let a = end_with c.args.outlet.now c.args.patience.now in
    let m = end_with c.poll_into.new.self c.found.new.self in
    let z = end_with c.complete.new.outlet c.found.new.self in
    let deal = dealt _ out _ b.first b.count b.end _ _ b.field-0-is b.ensures.answer.1 c.poll_into.auto.out b.ensures.received in
    let works = works_shown g.H.InPlaceHandler.goes c.args.handler.now c.show_in_place.new.handler out b.first b.count b.end _ _ _ deal
    c.show_in_place.ensures c.in_err-complete-in-Ok-Batch.ensures.fault in
    let is = b.is ∙ ap (λ x. Ok x) b.field-0-is in
    let call = came g.O.Outlet.does g.P.Patience.waits g.P.Patience.finds c.args.outlet.now c.poll_into.new.self c.args.patience.now c.found.new.self
    c.args.buf.now out c.poll_into.result (Ok (polled.Batch b.first b.count b.end)) is c.poll_into.ensures.called c.found.ensures.finds in
    let done = completing g.O.Outlet.does g.P.Patience.waits g.P.Patience.finds c.found.new.self (b.first + b.count) c.complete.result
    c.poll_into.new.self c.complete.new.outlet c.complete.ensures.called in
    let failed : c.complete.result ≡ Err c.in_err-complete-in-Ok-Batch.field-0.0 = c.in_err-complete-in-Ok-Batch.was in
    let p = err_from_is_err_and c.from_residual.result c.from_residual.ensures.1 in
    let same = p.1 in
    let why = p.2 in
    turned_batch (Attends g.O.Outlet.does g.P.Patience.waits g.P.Patience.finds) g.H.InPlaceHandler.goes c.args.handler.now c.show_in_place.new.handler a m z _ _
    (g.G.Gate.may_stop c.args.gate.now) (g.G.Gate.must_stop c.args.gate.now) _ _ c.from_residual.result c.args.buf.now out b.first b.count
    (b.first + b.count) b.end c.complete.result call done works c.pass.ensures (ap (λ n. b.first + n) (sym (length-take-le b.count out deal.within)))
    refl c.poll_into.auto.out (λ is. cc) (λ fault is. cc) (λ progress is. cc)

pub returns-in_ok-complete-in-Ok-Batch-clause-takes : goal.returns-in_ok-complete-in-Ok-Batch-clause-takes
returns-in_ok-complete-in-Ok-Batch-clause-takes g c =
    let b = c.in-Ok-Batch in
    let out = c.poll_into.new.out in
    let a = end_with c.args.outlet.now c.args.patience.now in
    let m = end_with c.poll_into.new.self c.found.new.self in
    let z = end_with c.complete.new.outlet c.found.new.self in
    let deal = dealt _ out _ b.first b.count b.end _ _ b.field-0-is b.ensures.answer.1 c.poll_into.auto.out b.ensures.received in
    let works = works_batch g.H.InPlaceHandler.goes c.args.handler.now c.show_in_place.new.handler out b.first b.count _ b.end _ _ _ deal
    c.show_in_place.ensures c.in_ok-complete-in-Ok-Batch.ensures.completed in
    let is = b.is ∙ ap (λ x. Ok x) b.field-0-is in
    let call = came g.O.Outlet.does g.P.Patience.waits g.P.Patience.finds c.args.outlet.now c.poll_into.new.self c.args.patience.now c.found.new.self
    c.args.buf.now out c.poll_into.result (Ok (polled.Batch b.first b.count b.end)) is c.poll_into.ensures.called c.found.ensures.finds in
    let done = completing g.O.Outlet.does g.P.Patience.waits g.P.Patience.finds c.found.new.self (b.first + b.count) c.complete.result
    c.poll_into.new.self c.complete.new.outlet c.complete.ensures.called in
    turned_batch (Attends g.O.Outlet.does g.P.Patience.waits g.P.Patience.finds) g.H.InPlaceHandler.goes c.args.handler.now c.show_in_place.new.handler a m z _ _
    (g.G.Gate.may_stop c.args.gate.now) (g.G.Gate.must_stop c.args.gate.now) _ _ (Ok GoesOn) c.args.buf.now out b.first b.count
    (b.first + b.count) b.end c.complete.result call done works c.pass.ensures (ap (λ n. b.first + n) (sym (length-take-le b.count out deal.within)))
    refl c.poll_into.auto.out (λ is. cc) (λ fault is. cc) (λ progress is. c.in_ok-complete-in-Ok-Batch.was)

pub returns-in-Ok-Drained-clause-takes : goal.returns-in-Ok-Drained-clause-takes
returns-in-Ok-Drained-clause-takes g c =
    let is = c.in-Ok-Drained.is ∙ ap (λ x. Ok x) c.in-Ok-Drained.field-0-is in
    nothing_came g.O.Outlet.does g.P.Patience.waits g.P.Patience.finds c.args.outlet.now c.poll_into.new.self c.args.patience.now
    c.args.patience.now c.args.buf.now c.poll_into.new.out c.poll_into.result (Ok polled.Drained) is c.poll_into.ensures.called
    refl g.H.InPlaceHandler.goes _ g.O.Outlet.received (g.G.Gate.may_stop c.args.gate.now) (g.G.Gate.must_stop c.args.gate.now) _
    (Ok Drained) refl c.poll_into.auto.out c.poll_into.ensures.received (λ goes. absurd (cc)) (λ told. tt) (λ fault fails. absurd (cc))

pub returns-in-Err-Refused-clause-takes : goal.returns-in-Err-Refused-clause-takes
returns-in-Err-Refused-clause-takes g c =
    let no = c.in-Err-Refused in
    let is = no.is ∙ ap (λ x. Err x) no.field-0-is in
    nothing_came g.O.Outlet.does g.P.Patience.waits g.P.Patience.finds c.args.outlet.now c.poll_into.new.self c.args.patience.now
    c.args.patience.now c.args.buf.now c.poll_into.new.out c.poll_into.result (Err (Refused no.refusal)) is c.poll_into.ensures.called
    refl g.H.InPlaceHandler.goes _ g.O.Outlet.received (g.G.Gate.may_stop c.args.gate.now) (g.G.Gate.must_stop c.args.gate.now) _
    (Err (Refused no.refusal)) refl c.poll_into.auto.out c.poll_into.ensures.received (λ goes. absurd (cc)) (λ told. absurd (cc)) (λ fault fails. cc)

pub returns-in-Ok-Gating-clause-takes : goal.returns-in-Ok-Gating-clause-takes
returns-in-Ok-Gating-clause-takes g c =
    let is = c.in-Ok-Gating.is ∙ ap (λ x. Ok x) c.in-Ok-Gating.field-0-is in
    nothing_came g.O.Outlet.does g.P.Patience.waits g.P.Patience.finds c.args.outlet.now c.poll_into.new.self c.args.patience.now
    c.waited.new.patience c.args.buf.now c.poll_into.new.out c.poll_into.result (Ok polled.Gating) is c.poll_into.ensures.called
    c.waited.ensures.waits g.H.InPlaceHandler.goes _ g.O.Outlet.received (g.G.Gate.may_stop c.args.gate.now) (g.G.Gate.must_stop c.args.gate.now) _
    (Ok c.waited.result) refl c.poll_into.auto.out c.poll_into.ensures.received (λ goes. refl) (λ told. absurd (cc)) (λ fault fails. absurd (cc))

pub returns-in-Ok-Idle-clause-takes : goal.returns-in-Ok-Idle-clause-takes
returns-in-Ok-Idle-clause-takes g c =
    let is = c.in-Ok-Idle.is ∙ ap (λ x. Ok x) c.in-Ok-Idle.field-0-is in
    nothing_came g.O.Outlet.does g.P.Patience.waits g.P.Patience.finds c.args.outlet.now c.poll_into.new.self c.args.patience.now
    c.waited-in-Ok-Idle.new.patience c.args.buf.now c.poll_into.new.out c.poll_into.result (Ok polled.Idle) is c.poll_into.ensures.called
    c.waited-in-Ok-Idle.ensures.waits g.H.InPlaceHandler.goes _ g.O.Outlet.received (g.G.Gate.may_stop c.args.gate.now) (g.G.Gate.must_stop c.args.gate.now) _
    (Ok c.waited-in-Ok-Idle.result) refl c.poll_into.auto.out c.poll_into.ensures.received (λ goes. refl) (λ told. absurd (cc)) (λ fault fails. absurd (cc))

pub returns-in-Err-Memory-clause-takes : goal.returns-in-Err-Memory-clause-takes
returns-in-Err-Memory-clause-takes g c =
    let is = c.in-Err-Memory.is ∙ ap (λ x. Err x) c.in-Err-Memory.field-0-is in
    nothing_came g.O.Outlet.does g.P.Patience.waits g.P.Patience.finds c.args.outlet.now c.poll_into.new.self c.args.patience.now
    c.waited-in-Err-Memory.new.patience c.args.buf.now c.poll_into.new.out c.poll_into.result (Err Memory) is c.poll_into.ensures.called
    c.waited-in-Err-Memory.ensures.waits g.H.InPlaceHandler.goes _ g.O.Outlet.received (g.G.Gate.may_stop c.args.gate.now) (g.G.Gate.must_stop c.args.gate.now) _
    (Ok c.waited-in-Err-Memory.result) refl c.poll_into.auto.out c.poll_into.ensures.received (λ goes. refl) (λ told. absurd (cc))
    (λ fault fails. absurd (cc))

pub returns-in_ok-complete-in-Ok-Batch-clause-done : goal.returns-in_ok-complete-in-Ok-Batch-clause-done
returns-in_ok-complete-in-Ok-Batch-clause-done g c =
    let b = c.in-Ok-Batch in
    let deal = dealt _ _ _ b.first b.count b.end _ _ b.field-0-is b.ensures.answer.1 c.poll_into.auto.out b.ensures.received in
    done_batch c.poll_into.new.out b.first b.count b.end _ _ _ deal c.in_ok-complete-in-Ok-Batch.ensures.completed
