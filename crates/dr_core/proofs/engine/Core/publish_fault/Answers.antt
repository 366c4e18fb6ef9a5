use Rattle.std.proofs.Common.{◌≡◌, Bool, true, false, cond, Some, None, sym, ◌∙◌, refl}
use Rattle.std.specs.Prelude.{◌==◌, nat_lt}
use Rattle.std.proofs.lemmas.Bool.{eq-eqb, ne_eqb, lt-ltb, le-ltb, or_left, or_right, or_from}
use Rattle.dr_meaning.specs.declared.refusal.Refusal.TheVariants.{NotClaimed, NotWritten}
use Rattle.dr_core.specs.Calls.CoreView.{known_at}
use Rattle.dr_core.specs.Inside.Fields.{kept_of}
use Rattle.dr_core.specs.Inside.Availability.{is_ahead, is_published_at, is_written_at, owner_at, publish_fault}
use Rattle.dr_core.proofs.Recents.{publish_fault_is}
use Rattle.dr_core.proofs.engine.Core.publish_fault.Goals as goal
use Rattle.dr_core.proofs.engine.Core.publish_fault.Given.{Over}
use Rattle.dr_core.proofs.engine.Core.publish_fault.Goals.{After-owner_of, then-s-self, else-s-self}

pub returns-then-is_ahead : goal.returns-then-is_ahead
returns-then-is_ahead g c =
    let published : is_published_at (kept_of c.self.inside) c.args.s ≡ true = elim c.if-s-self.branch [
      | then-s-self w ↦ or_left (nat_lt c.args.s c.self.inside.front) _ (lt-ltb _ _ w.if-s-self.true)
      | else-s-self w ↦ or_right (nat_lt c.args.s c.self.inside.front) _ (sym w.is_ahead.ensures ∙ sym w.value-is ∙ c.if-is_ahead.true)
    ] in
    sym (rw (← c.self.view_is) (publish_fault_is c.self.inside c.args.s c.args.p true _ _ (rw (← c.self.view_is) at c.requires.claimed) (rw (← c.self.view_is) at c.requires.recent) published refl refl))

-- a sequence that is not published, by its owner and its mark as written
unpublished_fault : (g : Over) (c : After-owner_of g) (mine written : Bool) → (owner_at c.self.inside.mode c.self.inside.owners.items c.args.s == c.args.p) ≡ mine
    → is_written_at (kept_of c.self.inside) c.args.s ≡ written
    → publish_fault (known_at c.args.self.now c.args.s) c.args.p ≡ cond mine (cond written None (Some NotWritten)) (Some NotClaimed)
unpublished_fault g c mine written owned marked =
    let unpublished : is_published_at (kept_of c.self.inside) c.args.s ≡ false = elim c.if-s-self.branch [
      | then-s-self w ↦ absurd (let e : ◌≡◌ {A = Bool} true false = sym (lt-ltb _ _ w.if-s-self.true) ∙ sym w.value-is ∙ c.if-is_ahead.false in cc)
      | else-s-self w ↦ or_from (nat_lt c.args.s c.self.inside.front) (is_ahead c.self.inside.mode c.self.inside.published c.args.s) (le-ltb _ _ w.if-s-self.false) (sym w.is_ahead.ensures ∙ sym w.value-is ∙ c.if-is_ahead.false)
    ] in
    rw (← c.self.view_is) (publish_fault_is c.self.inside c.args.s c.args.p false mine written (rw (← c.self.view_is) at c.requires.claimed) (rw (← c.self.view_is) at c.requires.recent) unpublished owned marked)

pub returns-then-owner_of-p : goal.returns-then-owner_of-p
returns-then-owner_of-p g c =
    let owner = rw c.deref.ensures.value at c.owner_of.ensures in
    sym (unpublished_fault g (goal.at.returns-then-owner_of-p g c).After-owner_of false _ (ne_eqb _ _ (λ e. c.if-owner_of-p.true (owner ∙ e))) refl)

pub returns-then-is_written : goal.returns-then-is_written
returns-then-is_written g c =
    let owner = rw c.deref.ensures.value at c.owner_of.ensures in
    sym (unpublished_fault g (goal.at.returns-then-is_written g c).After-owner_of true true (eq-eqb _ _ (sym owner ∙ c.if-owner_of-p.false)) (sym c.is_written.ensures ∙ c.if-is_written.true))

pub returns-else-is_written : goal.returns-else-is_written
returns-else-is_written g c =
    let owner = rw c.deref.ensures.value at c.owner_of.ensures in
    sym (unpublished_fault g (goal.at.returns-else-is_written g c).After-owner_of true false (eq-eqb _ _ (sym owner ∙ c.if-owner_of-p.false)) (sym c.is_written.ensures ∙ c.if-is_written.false))
