use Rattle.std.proofs.Common.{refl, ◌≡◌, ℕ, ◌+◌, ◌-◌, ◌<◌, ◌≤◌, inl, min, length, map, sym, ap, ◌∙◌, arith, List, take, drop, ◌++◌, slice_index, false}
use Rattle.std.specs.Prelude.{◌==◌}
use Rattle.std.specs.List.{range_with_len}
use Rattle.std.proofs.lemmas.Bool.{eqb-false, le-leb}
use Rattle.std.proofs.lemmas.List.{take_at}
use Rattle.std.proofs.lemmas.List.FromFn.{length-map-range_with_len}
use Rattle.dr_seq.specs.Slots.{event_at}
use Rattle.dr_graph.specs.Meaning.Graph.{upstreams_of}
use Rattle.dr_core.specs.Calls.CoreView.{CoreView}
use Rattle.dr_core.specs.Inside.Fields.{view_of, IsNothing}
use Rattle.dr_core.specs.Calls.Shows.{IsStep, offered_to}
use Rattle.dr_meaning.specs.Meaning.Machine.{handlers}
use Rattle.dr_meaning.specs.declared.refusal.Refusal.TheVariants.{NoHandler}
use Rattle.dr_meaning.specs.declared.command.Command.TheVariants.{Poll}
use Rattle.dr_meaning.specs.declared.command.Reply.TheVariants.{Batch}
use Rattle.std.specs.Vec.{with_item}
use Rattle.dr_core.proofs.CoreSteps.{refused_step}
use Rattle.dr_core.proofs.Polling.{PollsAt, polls_at, batch_step, nothing_step, gives_nothing, takes_nothing}
use Rattle.dr_core.proofs.Recents.{shown_event}
use Rattle.dr_core.proofs.Retiring.{told}
use Rattle.dr_core.proofs.Whole.{step_whole}
use Rattle.dr_core.proofs.engine.Core.poll_into.Goals as goal
use Rattle.dr_core.proofs.engine.Core.poll_into.Given.{Over}
use Rattle.dr_core.proofs.engine.Core.poll_into.Goals.{After-available-available, After-copy_out}

pub returns-then-h-len-clause-step : goal.returns-then-h-len-clause-step
returns-then-h-len-clause-step g c =
    let past : handlers (view_of c.self.inside).setup ≤ c.args.h = omega (arith, c.len.ensures.handlers) in
    rw (← c.self.view_is) (refused_step (view_of c.self.inside) (Poll c.args.h (length c.args.out.now)) NoHandler (λ m sh. inl (le-leb _ _ past, refl)))

-- the events that stand at the front of the buffer
copied : {E : Type 0} (d : E) (events : List E) (first count : ℕ) (out old : List E)
    → out ≡ map (λ s. event_at d events s) (range_with_len first count) ++ drop count old
    → take count out ≡ map (λ s. event_at d events s) (range_with_len first count)
copied d events first count out old is =
    ap (take count) is
    ∙ take_at (map (λ s. event_at d events s) (range_with_len first count)) (drop count old) count
    (length-map-range_with_len (λ s. event_at d events s) first count)

-- what stands behind them
rested : {E : Type 0} (d : E) (events : List E) (first count : ℕ) (out old : List E)
    → out ≡ map (λ s. event_at d events s) (range_with_len first count) ++ drop count old
    → out ≡ take count out ++ drop (length (take count out)) old
rested d events first count out old is =
    let front : take count out ≡ map (λ s. event_at d events s) (range_with_len first count) = copied d events first count out old is in
    rw front
    (is ∙ ap (λ k. map (λ s. event_at d events s) (range_with_len first count) ++ drop k old) (sym (length-map-range_with_len (λ s. event_at d events s) first count)))

-- what the poll has found before it looks further
found : (g : Over) (c : After-available-available g) → PollsAt (view_of c.self.inside) c.args.h (length c.args.out.now) c.index-first.result.now c.available-available.result
found g c =
    polls_at (view_of c.self.inside) c.args.h
    (length c.args.out.now) c.len.result c.index-first.result.now c.available-available.result c.self.invariant.whole c.len.ensures.handlers c.if-h-len.false
    (told (view_of c.self.inside) c.args.h c.index.result.now false c.self.invariant.whole
    (omega (arith, c.len.ensures.handlers)) c.index.ensures c.if-index.false)
    (eqb-false _ _ (sym c.if-is_empty.ensures)) c.index-first.ensures (rw (← c.self.view_is) at c.available-available.ensures)

-- the batch is the machine's
took : (g : Over) (c : After-copy_out g) → PollsAt (view_of c.self.inside) c.args.h (length c.args.out.now) c.index-first.result.now c.available-available.result
    → IsStep (view_of c.self.inside) (Poll c.args.h (length c.args.out.now))
    (Batch c.index-first.result.now c.min-count.result (c.index-first.result.now + c.min-count.result == c.available-available.result))
    (map (λ s. event_at c.self.inside.blank c.self.inside.events s) (range_with_len c.index-first.result.now c.min-count.result))
    (view_of (record c.self.inside { taken = with_item c.self.inside.taken c.args.h (c.index-first.result.now + c.min-count.result) }))
took g c at =
    batch_step (view_of c.self.inside) c.args.h (length c.args.out.now) at.whole at.inside at.left at.some
    (rw (at.taken, at.offered) at c.if-first-available.true) c.index-first.result.now c.min-count.result c.available-available.result
    (λ s. event_at c.self.inside.blank c.self.inside.events s) (shown_event c.self.inside) at.taken at.offered c.min-count.ensures

pub invariant_of-self : goal.invariant_of-self
invariant_of-self g c =
    let v : CoreView g.row.E.Denot = view_of c.self.inside in
    let at : PollsAt v c.args.h (length c.args.out.now) c.index-first.result.now c.available-available.result =
    found g (goal.at.invariant_of-self g c).After-available-available in
    let more : slice_index v.taken c.args.h < offered_to v (upstreams_of v.setup.upstreams c.args.h) = rw (at.taken, at.offered) at c.if-first-available.true in
    let count : c.min-count.result ≡ min (c.available-available.result - c.index-first.result.now) (length c.args.out.now) = c.min-count.ensures in
    record {
      whole = step_whole (took g (goal.at.invariant_of-self g c).After-copy_out at) refl c.self.invariant.whole;
      available = c.self.invariant.available;
      gating = c.self.invariant.gating;
      seen = c.self.invariant.seen;
      claimable = c.self.invariant.claimable;
    }

pub returns-then-first-available-clause-step : goal.returns-then-first-available-clause-step
returns-then-first-available-clause-step g c =
    let at = found g (goal.at.returns-then-first-available-clause-step g c).After-available-available in
    let values : take c.min-count.result c.copy_out.new.out ≡ map (λ s. event_at c.self.inside.blank c.self.inside.events s) (range_with_len c.index-first.result.now c.min-count.result) =
    copied c.self.inside.blank c.self.inside.events _ _ _ _ (c.copy_out.ensures c.self.inside.blank) in
    rw (← c.self.view_is) (rw values (took g (goal.at.returns-then-first-available-clause-step g c).After-copy_out at))

pub returns-then-first-available-clause-rest : goal.returns-then-first-available-clause-rest
returns-then-first-available-clause-rest g c =
    rested c.self.inside.blank c.self.inside.events c.index-first.result.now c.min-count.result c.copy_out.new.out c.args.out.now (c.copy_out.ensures c.self.inside.blank)

pub returns-clause-step : goal.returns-clause-step
returns-clause-step g c =
    let v : CoreView g.row.E.Denot = view_of c.self.inside in
    let at = found g (goal.at.returns-clause-step g c).After-available-available in
    let is : IsNothing v (slice_index v.taken c.args.h) c.why_nothing.result = rw (at.taken) at (rw (← c.self.view_is) at c.why_nothing.ensures) in
    rw (← c.self.view_is, (gives_nothing v _ c.why_nothing.result is).none c.args.out.now)
    (nothing_step v c.args.h (length c.args.out.now) at.whole at.inside at.left at.some (rw (at.taken, at.offered) at c.if-first-available.false) c.why_nothing.result is)

pub returns-clause-rest : goal.returns-clause-rest
returns-clause-rest g c = rw ((gives_nothing c.args.self.now c.index-first.result.now c.why_nothing.result c.why_nothing.ensures).none c.args.out.now) refl

pub returns-clause-fits : goal.returns-clause-fits
returns-clause-fits g c = let none = (gives_nothing c.args.self.now c.index-first.result.now c.why_nothing.result c.why_nothing.ensures).counts in omega arith

pub returns-clause-takes : goal.returns-clause-takes
returns-clause-takes g c = takes_nothing c.args.self.now _ c.args.h c.index-first.result.now c.why_nothing.result c.why_nothing.ensures
