use Rattle.std.proofs.Common.{◌≡◌, [], ℕ, ◌+◌, ◌-◌, ◌<◌, ◌≤◌, length, sym, ap, ◌∙◌, false, true, Bool, not, ◌&&◌, arith, None, refl, max}
use Rattle.std.specs.Prelude.{◌==◌}
use Rattle.std.proofs.lemmas.Bool.{and_left, and_right, and_parts, eq-eqb, eqb-true, leb-true, ltb-true}
use Rattle.dr_seq.proofs.Sizes.{size_positive}
use Rattle.dr_meaning.specs.declared.command.Command.TheVariants.{Publish}
use Rattle.dr_meaning.specs.declared.command.Reply.TheVariants.{Published}
use Rattle.dr_core.specs.Calls.Shows.{IsStep}
use Rattle.dr_meaning.specs.Meaning.Machine.{producers, is_single}
use Rattle.dr_core.specs.Calls.CoreView.{CoreView, known_at}
use Rattle.dr_core.specs.Inside.Availability.{published_after, IsNewFront, publish_fault}
use Rattle.dr_core.specs.Inside.Fields.{view_of, kept_of}
use Rattle.dr_core.proofs.Publishing.{publish_front, publish_refused, publish_order, publish_step}
use Rattle.dr_core.proofs.Recents.{known_there, publishes_known, publishes_available, front_known}
use Rattle.dr_core.proofs.InOrder.{InOrder, next_step, next_available}
use Rattle.dr_core.proofs.Whole.{step_whole}
use Rattle.dr_core.proofs.Writing.{near}
use Rattle.dr_core.proofs.engine.Core.publish.Goals as goal
use Rattle.dr_core.proofs.engine.Core.publish.Given.{Over}
use Rattle.dr_core.proofs.engine.Core.publish.Goals.{After-show-self-inside, Then-is_next_written, else-is_single-via-then-is_single+else-lo-self-2}
use Rattle.dr_core.proofs.engine.Core.publish.Goals.{else-is_single-via-else-is_single}

pub returns-then-lo-self-clause-step : goal.returns-then-lo-self-clause-step
returns-then-lo-self-clause-step g c =
    rw (← c.self.view_is)
    (publish_front (view_of c.self.inside) c.args.p c.args.lo c.args.hi c.self.invariant.whole (rw c.producers.ensures at c.if-p-producers.false)
    c.if-lo-hi.false c.if-hi-self.false c.if-lo-self.true)

pub returns-in-Some-clause-step : goal.returns-in-Some-clause-step
returns-in-Some-clause-step g c =
    let v : CoreView g.row.E.Denot = view_of c.self.inside in
    let found = rw (← c.self.view_is) at c.in-Some.ensures in
    rw (← c.self.view_is)
    (publish_refused v c.args.p c.args.lo c.args.hi c.self.invariant.whole (rw c.producers.ensures at c.if-p-producers.false)
    c.if-lo-hi.false c.if-hi-self.false c.if-lo-self.false
    c.in-Some.refusal found.0 found.1 found.2 found.3)

pub returns-then-lo-self-2-clause-step : goal.returns-then-lo-self-2-clause-step
returns-then-lo-self-2-clause-step g c =
    let v : CoreView g.row.E.Denot = view_of c.self.inside in
    let found = rw (← c.self.view_is) at c.in_default.ensures in
    rw (← c.self.view_is)
    (publish_order v c.args.p c.args.lo c.args.hi c.self.invariant.whole (rw c.producers.ensures at c.if-p-producers.false)
    c.if-lo-hi.false c.if-hi-self.false c.if-lo-self.false
    found (sym c.is_single.ensures ∙ c.if-is_single.true) c.if-lo-self-2.true)

pub first_fault-requires-clause-recent : goal.first_fault-requires-clause-recent
first_fault-requires-clause-recent g c = rw (← c.self.view_is) (near (view_of c.self.inside) c.self.invariant.whole c.args.lo c.if-lo-self.false)

pub show-self-inside-requires-clause-round : goal.show-self-inside-requires-clause-round
show-self-inside-requires-clause-round g c =
    let v : CoreView g.row.E.Denot = view_of c.self.inside in
    let round : v.next ≤ v.front + v.setup.size = near v c.self.invariant.whole v.front (omega arith) in
    let len : length c.self.inside.published ≡ v.setup.size = c.self.invariant.available.published in
    omega arith

-- what one producer publishes begins at the front
begins : (g : Over) (c : After-show-self-inside g) → is_single c.self.inside.mode ≡ true → c.args.lo ≡ c.self.inside.front
begins g c single = elim c.else-is_single.branch [
  | else-is_single-via-then-is_single+else-lo-self-2 w ↦ w.if-lo-self-2.false
  | else-is_single-via-else-is_single w ↦ absurd (let e : ◌≡◌ {A = Bool} true false = sym single ∙ sym c.is_single.ensures ∙ w.if-is_single.false in cc)
]

-- the front that the new marks have
found : (g : Over) (c : After-show-self-inside g)
    → IsNewFront c.self.inside.mode (published_after c.self.inside.mode c.self.inside.published c.args.lo (c.args.hi + 1 - c.args.lo))
    c.self.inside.front c.self.inside.next c.args.hi c.show-self-inside.result
found g c = rw c.show-self-inside.ensures.marks at c.show-self-inside.ensures.front

-- the publication is the machine's
published : (g : Over) (c : After-show-self-inside g)
    → IsStep (view_of c.self.inside) (Publish c.args.p c.args.lo c.args.hi) Published []
    (view_of (record c.self.inside { published = c.show-self-inside.new.published; front = c.show-self-inside.result; filled = max c.self.inside.filled c.show-self-inside.result }))
published g c =
    let v : CoreView g.row.E.Denot = view_of c.self.inside in
    let recent : v.next ≤ c.args.lo + v.setup.size = near v c.self.invariant.whole c.args.lo c.if-lo-self.false in
    let round : v.next ≤ v.front + v.setup.size = near v c.self.invariant.whole v.front (omega arith) in
    let some : 0 < v.setup.size = size_positive v.setup.size c.self.invariant.whole.size in
    let none : (j : ℕ) → j < c.args.hi + 1 - c.args.lo → publish_fault (known_at v (c.args.lo + j)) c.args.p ≡ None = rw (← c.self.view_is) at c.in_default.ensures in
    let order : (is_single v.setup.mode && not (c.args.lo == v.front)) ≡ false = elim c.else-is_single.branch [
      | else-is_single-via-then-is_single+else-lo-self-2 w ↦ and_right _ _ (ap not (eq-eqb _ _ w.if-lo-self-2.false))
      | else-is_single-via-else-is_single w ↦ and_left _ _ (sym c.is_single.ensures ∙ w.if-is_single.false)
    ] in
    rw c.show-self-inside.ensures.marks
    (publish_step v c.args.p c.args.lo c.args.hi c.show-self-inside.result _
    (publishes_known v (kept_of c.self.inside) (known_there c.self.inside) c.self.invariant.available c.self.invariant.whole.front some
    c.args.p c.args.lo c.args.hi c.show-self-inside.result c.if-lo-hi.false c.if-hi-self.false
    recent round refl c.if-lo-self.false (begins g c) (found g c) none)
    c.self.invariant.whole (rw c.producers.ensures at c.if-p-producers.false) c.if-lo-hi.false c.if-hi-self.false c.if-lo-self.false none
    (front_known v (kept_of c.self.inside) (known_there c.self.inside) c.self.invariant.available c.self.invariant.whole.front some
    c.args.p c.args.lo c.args.hi c.show-self-inside.result c.if-lo-hi.false c.if-hi-self.false
    recent round refl c.if-lo-self.false (begins g c) (found g c))
    order)

pub invariant_of-self-2 : goal.invariant_of-self-2
invariant_of-self-2 g c =
    let v : CoreView g.row.E.Denot = view_of c.self.inside in
    let at : After-show-self-inside g = (goal.at.invariant_of-self-2 g c).After-show-self-inside in
    let recent : v.next ≤ c.args.lo + v.setup.size = near v c.self.invariant.whole c.args.lo c.if-lo-self.false in
    let round : v.next ≤ v.front + v.setup.size = near v c.self.invariant.whole v.front (omega arith) in
    let some : 0 < v.setup.size = size_positive v.setup.size c.self.invariant.whole.size in
    record {
      whole = rw c.max-self-inside.ensures (step_whole (published g at) refl c.self.invariant.whole);
      available = rw (c.max-self-inside.ensures, c.show-self-inside.ensures.marks)
          (publishes_available v (kept_of c.self.inside) (known_there c.self.inside) c.self.invariant.available c.self.invariant.whole.front some
          c.args.p c.args.lo c.args.hi c.show-self-inside.result c.if-lo-hi.false c.if-hi-self.false
          recent round refl c.if-lo-self.false (begins g at) (found g at));
      gating = c.self.invariant.gating;
      seen = c.self.invariant.seen;
      claimable = c.self.invariant.claimable;
    }

pub returns-clause-step : goal.returns-clause-step
returns-clause-step g c = rw (← c.self.view_is) (rw c.max-self-inside.ensures (published g (goal.at.returns-clause-step g c).After-show-self-inside))

-- what the test of the next stretch told
in_order : (g : Over) (c : Then-is_next_written g) → InOrder c.self.inside c.args.lo c.args.hi
in_order g c =
    let all = and_parts _ _ (sym c.is_next_written.ensures ∙ c.if-is_next_written.true) in
    let from = and_parts _ _ all.1 in
    let upto = and_parts _ _ from.1 in
    record { single = all.0; begins = eqb-true _ _ from.0; order = leb-true _ _ upto.0; written = ltb-true _ _ upto.1 }

pub returns-then-is_next_written-clause-step : goal.returns-then-is_next_written-clause-step
returns-then-is_next_written-clause-step g c =
    rw (← c.self.view_is) (next_step c.self.inside c.self.invariant c.args.p c.args.lo c.args.hi (rw c.producers.ensures at c.if-p-producers.false) (in_order g (goal.at.returns-then-is_next_written-clause-step g c).Then-is_next_written))

pub invariant_of-self : goal.invariant_of-self
invariant_of-self g c =
    let at : Then-is_next_written g = (goal.at.invariant_of-self g c).Then-is_next_written in
    let is : InOrder c.self.inside c.args.lo c.args.hi = in_order g at in
    let producer : c.args.p < producers c.self.inside.mode = rw c.producers.ensures at c.if-p-producers.false in
    let step = next_step c.self.inside c.self.invariant c.args.p c.args.lo c.args.hi producer is in
    record {
      whole = step_whole step refl c.self.invariant.whole;
      available = next_available c.self.inside c.self.invariant c.args.p c.args.lo c.args.hi producer is;
      gating = c.self.invariant.gating;
      seen = c.self.invariant.seen;
      claimable = c.self.invariant.claimable;
    }
