use Rattle.std.proofs.Common.{ℕ, ◌≡◌, ◌+◌, ◌-◌, [], ◌<◌, ◌≤◌, length, sym, ap, ◌∙◌, List, Vec, Global, false, true, inl, inr, refl}
use Rattle.std.specs.Vec.{with_items}
use Rattle.std.proofs.lemmas.List.{with_items_is}
use Rattle.std.specs.Prelude.{◌==◌, ◌||◌, nat_lt}
use Rattle.std.proofs.lemmas.Bool.{or_left, or_right, eq-eqb, lt-ltb, lt-leb}
use Rattle.dr_meaning.specs.declared.refusal.Refusal.TheVariants.{BadCount}
use Rattle.dr_seq.proofs.Sizes.{size_positive}
use Rattle.dr_meaning.specs.declared.mode.Mode.{Mode}
use Rattle.dr_meaning.specs.declared.mode.Mode.TheVariants.{Single, Multi}
use Rattle.dr_meaning.specs.declared.command.Command.TheVariants.{Claim}
use Rattle.dr_meaning.specs.declared.command.Reply.TheVariants.{Claimed}
use Rattle.dr_meaning.specs.Meaning.Machine.{producers}
use Rattle.dr_core.specs.Calls.Shows.{IsStep}
use Rattle.dr_core.specs.Calls.CoreView.{CoreView, gate_of}
use Rattle.dr_core.specs.Inside.Availability.{owners_after, claim_fault}
use Rattle.dr_core.specs.Inside.Fields.{view_of, kept_of}
use Rattle.dr_core.proofs.CoreSteps.{refused_step, claim_step}
use Rattle.dr_core.proofs.Gating.{claim_refused, claim_accepted}
use Rattle.dr_core.proofs.Recents.{claims_known, claims_available, known_there, one_producer}
use Rattle.dr_core.proofs.Whole.{step_whole}
use Rattle.dr_seq.proofs.Stamped.{length-stamped}
use Rattle.dr_core.proofs.engine.Core.claim.Goals as goal
use Rattle.dr_core.proofs.engine.Core.claim.Given.{Over}
use Rattle.dr_core.proofs.engine.Core.claim.Goals.{After-own, then-n-eq0-via-then-n-eq0, then-n-eq0-via-else-n-eq0+then-n-get}

pub returns-then-n-eq0-clause-step : goal.returns-then-n-eq0-clause-step
returns-then-n-eq0-clause-step g c =
    let v : CoreView g.row.E.Denot = view_of c.self.inside in
    let bad : (c.args.n == 0 || nat_lt v.setup.size c.args.n) ≡ true = elim c.then-n-eq0.branch [
      | then-n-eq0-via-then-n-eq0 w ↦ or_left _ _ (eq-eqb _ _ w.if-n-eq0.true)
      | then-n-eq0-via-else-n-eq0+then-n-get w ↦ or_right (c.args.n == 0) _ (lt-ltb _ _ (rw w.get.ensures.value at w.if-n-get.true))
    ] in
    rw (← c.self.view_is) (refused_step v (Claim c.args.p c.args.n) BadCount (λ m sh. inr (lt-leb _ _ (rw c.producers.ensures at c.if-p-producers.false), inl (bad, refl))))

pub returns-in-Some-clause-step : goal.returns-in-Some-clause-step
returns-in-Some-clause-step g c =
    let v : CoreView g.row.E.Denot = view_of c.self.inside in
    rw (c.claim_fault.ensures.same, ← c.self.view_is)
    (claim_refused v c.args.p c.args.n (rw c.producers.ensures at c.if-p-producers.false) c.if-n-eq0.false (rw c.get.ensures.value at c.if-n-get.false) c.in-Some.refusal
    (rw (← c.self.view_is) at (sym c.claim_fault.ensures.fault ∙ c.in-Some.is)))

-- the owners that a claim wrote back
owners_are : (mode : Mode) (owners : Vec ℕ Global) (lent new : List ℕ) (from n p : ℕ) → lent ≡ owners.items → new ≡ owners_after mode lent from n p
    → (with_items owners new).items ≡ owners_after mode owners.items from n p
owners_are Single owners lent new from n p a b = with_items_is owners new (ap length (b ∙ a) ∙ sym owners.ok.0) ∙ b ∙ a
owners_are (Multi producers) owners lent new from n p a b =
    let e : new ≡ owners_after (Multi producers) owners.items from n p = b ∙ ap (λ l. owners_after (Multi producers) l from n p) a in
    with_items_is owners new (ap length e ∙ length-stamped (λ s. p) owners.items from n ∙ sym owners.ok.0) ∙ e

-- the producer owns what it claims
abbrev IsOwned : (g : Over) → After-own g → Type 0
IsOwned g c = (with_items c.self-2.inside.owners c.own.new.owners).items
    ≡ owners_after c.self-2.inside.mode c.self-2.inside.owners.items c.self-2.inside.next c.args.n c.args.p

-- the look for what refuses it changes nothing
unchanged : (g : Over) (c : After-own g) → view_of c.self-2.inside ≡ view_of c.self.inside
unchanged g c = c.self-2.view_is ∙ c.claim_fault.ensures.same ∙ sym c.self.view_is

-- and nothing does
free : (g : Over) (c : After-own g)
    → ((view_of c.self-2.inside).halted ≡ false)
    × (c.self-2.inside.next + c.args.n ≤ c.self-2.inside.limit) × (c.self-2.inside.next + c.args.n ≤ c.self-2.inside.size + gate_of (view_of c.self-2.inside))
free g c = claim_accepted (view_of c.self-2.inside) c.args.n (ap (λ w. claim_fault w c.args.n) (unchanged g c ∙ c.self.view_is) ∙ sym c.claim_fault.ensures.fault ∙ c.in_default.is)

-- the claim is the machine's
claimed : (g : Over) (c : After-own g) → IsOwned g c
    → IsStep (view_of c.self-2.inside) (Claim c.args.p c.args.n) (Claimed c.self-2.inside.next (c.self-2.inside.next + c.args.n - 1)) []
    (view_of (record c.self-2.inside { owners = with_items c.self-2.inside.owners c.own.new.owners; next = c.self-2.inside.next + c.args.n }))
claimed g c owned =
    let v : CoreView g.row.E.Denot = view_of c.self-2.inside in
    let same : v ≡ view_of c.self.inside = unchanged g c in
    let producer : c.args.p < producers v.setup.mode = rw (ap (λ w. w.setup.mode) same) (rw c.producers.ensures at c.if-p-producers.false) in
    let fits : c.args.n ≤ v.setup.size = rw (ap (λ w. w.setup.size) same) (rw c.get.ensures.value at c.if-n-get.false) in
    rw owned
    (claim_step v c.args.p c.args.n _
    (claims_known v (kept_of c.self-2.inside) (known_there c.self-2.inside) c.self-2.invariant.available c.self-2.invariant.whole.front
    (size_positive v.setup.size c.self-2.invariant.whole.size) c.args.n c.args.p
    fits (one_producer c.self-2.inside.mode c.args.p producer))
    producer c.if-n-eq0.false fits (free g c).0 (free g c).1 (free g c).2)

pub invariant_of-self : goal.invariant_of-self
invariant_of-self g c =
    let v : CoreView g.row.E.Denot = view_of c.self-2.inside in
    let at : After-own g = (goal.at.invariant_of-self g c).After-own in
    let owned : IsOwned g at = owners_are c.self-2.inside.mode c.self-2.inside.owners _ _ _ _ _ c.deref_mut.ensures.value c.own.ensures in
    record {
      whole = step_whole (claimed g at owned) refl c.self-2.invariant.whole;
      available = rw owned
          (claims_available v (kept_of c.self-2.inside) (known_there c.self-2.inside) c.self-2.invariant.available c.self-2.invariant.whole.front
          (size_positive v.setup.size c.self-2.invariant.whole.size) c.args.n c.args.p);
      gating = c.self-2.invariant.gating;
      seen = c.self-2.invariant.seen;
      claimable = rw (free g at).0 (rw (free g at).0 at c.self-2.invariant.claimable);
    }

pub returns-clause-step : goal.returns-clause-step
returns-clause-step g c =
    rw (← c.claim_fault.ensures.same, ← c.self-2.view_is)
    (claimed g (goal.at.returns-clause-step g c).After-own
    (owners_are c.self-2.inside.mode c.self-2.inside.owners _ _ _ _ _ c.deref_mut.ensures.value c.own.ensures))
