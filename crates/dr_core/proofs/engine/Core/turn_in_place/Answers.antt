use Rattle.std.proofs.Common.{◌≡◌, ◌<◌, ◌≤◌, ◌-◌, ◌∙◌, inl, inr, arith, refl, map, [], Ok, true, false, slice_index}
use Rattle.std.specs.List.{range_with_len}
use Rattle.std.proofs.lemmas.Bool.{le-leb, lt-leb}
use Rattle.dr_meaning.specs.declared.command.Command.TheVariants.{Poll}
use Rattle.dr_meaning.specs.declared.refusal.Refusal.TheVariants.{NoHandler, Retired}
use Rattle.dr_meaning.specs.Meaning.Machine.{handlers}
use Rattle.dr_core.proofs.CoreSteps.{refused_step}
use Rattle.dr_core.proofs.Shown.{same_retired}
use Rattle.dr_seq.specs.Slots.{event_at}
use Rattle.dr_seq.proofs.Sizes.{size_positive}
use Rattle.dr_core.specs.Calls.CoreView.{CoreView, retired_in}
use Rattle.dr_core.specs.Inside.Fields.{view_of, IsNothing}
use Rattle.dr_core.proofs.Polling.{PollsAt, polls_at, nothing_step}
use Rattle.dr_core.specs.Calls.Shows.{IsStep}
use Rattle.dr_meaning.specs.Calls.Replies.{poll_reply}
use Rattle.dr_core.proofs.Turns.{Turns, turns, nothing_turn}
use Rattle.dr_core.proofs.Recents.{shown_event}
use Rattle.dr_core.proofs.Retiring.{told}
use Rattle.dr_core.proofs.engine.Core.turn_in_place.Goals as goal
use Rattle.dr_core.proofs.engine.Core.turn_in_place.Given.{Over}
use Rattle.dr_core.proofs.engine.Core.turn_in_place.Goals.{After-available-available}

-- what the turn has found before it looks further
found : (g : Over) (c : After-available-available g)
    → PollsAt (view_of c.self.inside) c.args.h (view_of c.self.inside).setup.size c.index-first.result.now c.available-available.result
found g c =
    polls_at (view_of c.self.inside) c.args.h
    (view_of c.self.inside).setup.size c.len.result c.index-first.result.now c.available-available.result c.self.invariant.whole c.len.ensures.handlers c.if-h-len.false
    (told (view_of c.self.inside) c.args.h c.index.result.now false c.self.invariant.whole
    (omega (arith, c.len.ensures.handlers)) c.index.ensures c.if-index.false)
    (λ e. let some : 0 < (view_of c.self.inside).setup.size = size_positive _ c.self.invariant.whole.size in omega arith)
    c.index-first.ensures (rw (← c.self.view_is) at c.available-available.ensures)

pub returns-then-h-len-clause-turn : goal.returns-then-h-len-clause-turn
returns-then-h-len-clause-turn g c =
    let past : handlers (view_of c.self.inside).setup ≤ c.args.h = omega (arith, c.len.ensures.handlers) in
    rw (← c.self.view_is)
    ([], (refused_step (view_of c.self.inside) (Poll c.args.h (view_of c.self.inside).setup.size) NoHandler (λ m sh. inl (le-leb _ _ past, refl)), refl))

pub returns-then-index-clause-turn : goal.returns-then-index-clause-turn
returns-then-index-clause-turn g c =
    let v : CoreView g.row.E.Denot = view_of c.self.inside in
    let inside : c.args.h < handlers v.setup = omega (arith, c.len.ensures.handlers) in
    let gone : retired_in v c.args.h ≡ true = told v c.args.h c.index.result.now true c.self.invariant.whole inside c.index.ensures c.if-index.true in
    rw (← c.self.view_is)
    ([], (refused_step v (Poll c.args.h v.setup.size) Retired (λ m sh. inr (lt-leb _ _ inside, inl (same_retired sh c.args.h ∙ gone, refl))), refl))

pub returns-then-first-available-clause-turn : goal.returns-then-first-available-clause-turn
returns-then-first-available-clause-turn g c =
    let v : CoreView g.row.E.Denot = view_of c.self.inside in
    let at = found g (goal.at.returns-then-first-available-clause-turn g c).After-available-available in
    let is : IsNothing v (slice_index v.taken c.args.h) c.why_nothing.result = rw (at.taken) at (rw (← c.self.view_is) at c.why_nothing.ensures) in
    let step : IsStep c.args.self.now (Poll c.args.h c.args.self.now.setup.size) (poll_reply (Ok c.why_nothing.result)) [] c.args.self.now =
    rw (← c.self.view_is)
    (nothing_step v c.args.h v.setup.size at.whole at.inside at.left at.some (rw (at.taken, at.offered) at c.if-first-available.true) c.why_nothing.result is) in
    ([], nothing_turn g.H.InPlaceHandler.goes c.args.self.now c.args.self.now c.args.h c.args.self.now.setup.size c.index-first.result.now c.why_nothing.result c.args.handler.now c.why_nothing.ensures step)

-- all that is offered is taken and completed
taken : (g : Over) (c : After-available-available g) → c.index-first.result.now < c.available-available.result
    → Turns (view_of c.self.inside) c.args.h c.index-first.result.now c.available-available.result
    (map (λ s. event_at c.self.inside.blank c.self.inside.events s) (range_with_len c.index-first.result.now (c.available-available.result - c.index-first.result.now)))
taken g c more =
    turns (view_of c.self.inside) c.args.h c.index-first.result.now c.available-available.result (found g c) more
    (λ s. event_at c.self.inside.blank c.self.inside.events s) (shown_event c.self.inside)

pub invariant_of-self : goal.invariant_of-self
invariant_of-self g c =
    let v : CoreView g.row.E.Denot = view_of c.self.inside in
    let turn = taken g (goal.at.invariant_of-self g c).After-available-available c.if-first-available.false in
    record {
      whole = turn.whole;
      available = c.self.invariant.available;
      gating = c.self.invariant.gating;
      seen = λ f has. (let old : c.self.inside.gate ≤ slice_index v.completed f = c.self.invariant.seen f has in omega (arith, turn.grows f));
      claimable = c.self.invariant.claimable;
    }

pub returns-clause-turn : goal.returns-clause-turn
returns-clause-turn g c =
    let turn = taken g (goal.at.returns-clause-turn g c).After-available-available c.if-first-available.false in
    rw (← c.self.view_is) (_, (_, turn.polls, turn.completes, c.show_stretch.ensures c.self.inside.blank))
