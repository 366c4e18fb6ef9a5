use Rattle.std.proofs.Common.{◌≡◌, [], ◌+◌, ◌≤◌, ◌%◌, length, slice_set, sym, ◌∙◌, Bool, true, false, cond, Some, None, refl}
use Rattle.std.specs.Prelude.{◌==◌, nat_lt}
use Rattle.std.proofs.lemmas.Bool.{eq-eqb, ne_eqb, le-ltb, or_right, or_from}
use Rattle.dr_seq.proofs.Sizes.{size_positive}
use Rattle.dr_meaning.specs.declared.refusal.Refusal.TheVariants.{NotClaimed}
use Rattle.dr_meaning.specs.declared.command.Command.TheVariants.{Write}
use Rattle.dr_meaning.specs.declared.command.Reply.TheVariants.{Written}
use Rattle.dr_core.specs.Calls.Shows.{IsStep}
use Rattle.dr_core.specs.Calls.CoreView.{CoreView, known_at}
use Rattle.dr_core.specs.Inside.Availability.{owner_at, is_published_at, write_fault}
use Rattle.dr_core.specs.Inside.Fields.{view_of, kept_of}
use Rattle.dr_core.proofs.Recents.{known_there, write_fault_is, writes_known, writes_available}
use Rattle.dr_core.proofs.Whole.{step_whole}
use Rattle.dr_core.proofs.Writing.{near, write_front, write_refused, write_step}
use Rattle.dr_core.proofs.engine.Core.write.Goals as goal
use Rattle.dr_core.proofs.engine.Core.write.Given.{Over}
use Rattle.dr_core.proofs.engine.Core.write.Goals.{After-owner_of, After-put}

pub returns-then-s-self-2-clause-step : goal.returns-then-s-self-2-clause-step
returns-then-s-self-2-clause-step g c =
    rw (← c.self.view_is) (write_front (view_of c.self.inside) c.args.p c.args.s c.args.event (rw c.producers.ensures at c.if-p-producers.false) c.if-s-self.false c.if-s-self-2.true)

pub returns-then-is_ahead-clause-step : goal.returns-then-is_ahead-clause-step
returns-then-is_ahead-clause-step g c =
    let v : CoreView g.row.E.Denot = view_of c.self.inside in
    let published : is_published_at (kept_of c.self.inside) c.args.s ≡ true = or_right (nat_lt c.args.s c.self.inside.front) _ (sym c.is_ahead.ensures ∙ c.if-is_ahead.true) in
    rw (← c.self.view_is)
    (write_refused v c.args.p c.args.s c.args.event c.self.invariant.whole (rw c.producers.ensures at c.if-p-producers.false) c.if-s-self.false c.if-s-self-2.false _
    (write_fault_is c.self.inside c.args.s c.args.p true _ c.if-s-self.false (near v c.self.invariant.whole c.args.s c.if-s-self-2.false) published refl))

-- past the test of its mark the sequence is not published
unpublished : (g : Over) (c : After-owner_of g) → is_published_at (kept_of c.self.inside) c.args.s ≡ false
unpublished g c = or_from _ _ (le-ltb _ _ c.if-s-self-2.false) (sym c.is_ahead.ensures ∙ c.if-is_ahead.false)

-- an unpublished sequence, by its owner
unpublished_fault : (g : Over) (c : After-owner_of g) (mine : Bool) → (owner_at c.self.inside.mode c.self.inside.owners.items c.args.s == c.args.p) ≡ mine
    → write_fault (known_at (view_of c.self.inside) c.args.s) c.args.p ≡ cond mine None (Some NotClaimed)
unpublished_fault g c mine owned =
    write_fault_is c.self.inside c.args.s c.args.p false mine c.if-s-self.false
    (near (view_of c.self.inside) c.self.invariant.whole c.args.s c.if-s-self-2.false) (unpublished g c) owned

pub returns-then-owner_of-p-clause-step : goal.returns-then-owner_of-p-clause-step
returns-then-owner_of-p-clause-step g c =
    let owner = rw c.deref.ensures.value at c.owner_of.ensures in
    rw (← c.self.view_is)
    (write_refused (view_of c.self.inside) c.args.p c.args.s c.args.event c.self.invariant.whole (rw c.producers.ensures at c.if-p-producers.false)
    c.if-s-self.false c.if-s-self-2.false _
    (unpublished_fault g (goal.at.returns-then-owner_of-p-clause-step g c).After-owner_of false (ne_eqb _ _ (λ e. c.if-owner_of-p.true (owner ∙ e)))))

-- past the test of its owner the sequence may be written
mine : (g : Over) (c : After-put g) → owner_at c.self.inside.mode c.self.inside.owners.items c.args.s ≡ c.args.p
mine g c = sym (rw c.deref.ensures.value at c.owner_of.ensures) ∙ c.if-owner_of-p.false

-- the write is the machine's
written : (g : Over) (c : After-put g) → c.put.new.self ≡ slice_set c.self.inside.events (c.args.s % length c.self.inside.events) c.args.event
    → is_published_at (kept_of c.self.inside) c.args.s ≡ false
    → write_fault (known_at (view_of c.self.inside) c.args.s) c.args.p ≡ None
    → IsStep (view_of c.self.inside) (Write c.args.p c.args.s c.args.event) Written []
    (view_of (record c.self.inside { filled = c.note-self-inside.result; written = c.note-self-inside.new.written; events = c.put.new.self }))
written g c put unshown free =
    let v : CoreView g.row.E.Denot = view_of c.self.inside in
    let recent : v.next ≤ c.args.s + v.setup.size = near v c.self.invariant.whole c.args.s c.if-s-self-2.false in
    rw put
    (write_step v c.args.p c.args.s c.args.event c.self.invariant.whole (rw c.producers.ensures at c.if-p-producers.false) c.if-s-self.false c.if-s-self-2.false _
    (writes_known v (kept_of c.self.inside) (known_there c.self.inside) c.self.invariant.available c.self.invariant.whole.front (size_positive v.setup.size c.self.invariant.whole.size)
    c.args.p c.args.s c.args.event c.note-self-inside.result _ c.if-s-self.false
    recent c.note-self-inside.ensures unshown (mine g c)) free)

pub invariant_of-self : goal.invariant_of-self
invariant_of-self g c =
    let v : CoreView g.row.E.Denot = view_of c.self.inside in
    let at : After-owner_of g = (goal.at.invariant_of-self g c).After-owner_of in
    let put : After-put g = (goal.at.invariant_of-self g c).After-put in
    let recent : v.next ≤ c.args.s + v.setup.size = near v c.self.invariant.whole c.args.s c.if-s-self-2.false in
    record {
      whole = step_whole (written g put c.put.ensures (unpublished g at) (unpublished_fault g at true (eq-eqb _ _ (mine g put)))) refl c.self.invariant.whole;
      available = rw c.put.ensures
          (writes_available v (kept_of c.self.inside) (known_there c.self.inside) c.self.invariant.available c.self.invariant.whole.front (size_positive v.setup.size c.self.invariant.whole.size)
          c.args.p c.args.s c.args.event c.note-self-inside.result _ c.if-s-self.false recent c.note-self-inside.ensures);
      gating = c.self.invariant.gating;
      seen = c.self.invariant.seen;
      claimable = c.self.invariant.claimable;
    }

pub returns-clause-step : goal.returns-clause-step
returns-clause-step g c =
    let at : After-owner_of g = (goal.at.returns-clause-step g c).After-owner_of in
    let put : After-put g = (goal.at.returns-clause-step g c).After-put in
    rw (← c.self.view_is) (written g put c.put.ensures (unpublished g at) (unpublished_fault g at true (eq-eqb _ _ (mine g put))))
