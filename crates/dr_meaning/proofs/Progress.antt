-- Nobody is stuck in a state that a transcript leads to.
use Rattle.std.proofs.Common.{◌≡◌, ℕ, zero, suc, ◌+◌, ◌-◌, ◌<◌, ◌≤◌, ◌≢◌, inl, inr, min, Bool, true, false, not, ◌&&◌, List, [], ◌∷◌, arith}
use Rattle.std.proofs.Common.{refl, ap, sym, ◌∙◌, subst, length, replicate, slice_index}
use Rattle.std.specs.Prelude.{◌⊎◌, Contains, get_or, ◌==◌, nat_lt, All}
use Rattle.std.proofs.lemmas.Bool.{cond_both, cond-true, cond-false, cases_lt, cases_eq, and_from, or_parts, or_from, false≢true, lt-leb, lt-ltb, le-ltb, ne_eqb, eq-eqb}
use Rattle.std.proofs.lemmas.Bool.Decides.{nat_tests}
use Rattle.std.proofs.lemmas.List.{get_or_past}
use Rattle.std.proofs.lemmas.List.Elements.{All-append, All-replicate, All-get_or, All-nil}
use Rattle.std.proofs.lemmas.List.Folds.{list_any_at}
use Rattle.dr_meaning.specs.declared.command.Command.{Command}
use Rattle.dr_meaning.specs.declared.command.Command.TheVariants.{Claim, Write, Publish, Poll, Complete, Halt, Retire}
use Rattle.dr_meaning.specs.declared.command.Reply.TheVariants.{Claimed, Published, Batch, Drained}
use Rattle.dr_graph.specs.Meaning.Order.{is_in}
use Rattle.dr_graph.specs.Meaning.Graph.{upstreams_of, is_followed, IsLayered, IsGated, FinalsGate, IsGraph}
use Rattle.dr_graph.proofs.Gating.{any_here, final_left, least_above, least_above_some}
use Rattle.dr_meaning.specs.Meaning.Machine.{Setup, State, Outcome, handlers, producers, is_single, next, front, available, offered, cursor, gate, gating, publish_faults}
use Rattle.dr_meaning.specs.Meaning.Machine.{refusals, accepted, step, opening}
use Rattle.dr_meaning.specs.Meaning.Transcript.{Transcript, LeadsFrom, LeadsTo}
use Rattle.dr_meaning.specs.Meaning.Progress.{reply_to, MayTake, MayComplete, WaitsFor, AwaitedGoesOn, ClaimAwaits, MayPublish, NobodyIsStuck}
use Rattle.dr_meaning.proofs.Leasts.{least_is, least_of-one}
use Rattle.dr_meaning.proofs.Steps.{NoneHold, NoneHold-stretch, NoneHold-join, unless-none, unless-cases}
use Rattle.dr_meaning.proofs.Sound.{IsSound, offered-le}
use Rattle.dr_meaning.proofs.Bounds.{IsBounded, bounded}
use Rattle.dr_meaning.proofs.FiveLaws.{reached}

-- an upstream of a handler that is left is left, and each claimed sequence has a producer
pub record IsTended {E : Type 0} (c : Setup) (m : State E) : Type 0 where
  pub left : (h u : ℕ) → m.retired h ≡ false → Contains (upstreams_of c.upstreams h) u → m.retired u ≡ false
  pub owned : All (λ p. p < producers c.mode) m.owners

is_in_from : (h : ℕ) (us : List ℕ) → Contains us h → is_in us h ≡ true
is_in_from h us has = list_any_at (λ k. k == h) us has.0 h has.1 (eq-eqb _ h has.2)

-- a handler with upstreams is one of the graph
has_upstream : (graph : List (List ℕ)) (h u : ℕ) → Contains (upstreams_of graph h) u → h < length graph
has_upstream graph h u has =
    elim (cases_lt h (length graph)) [
      | inl lt ↦ lt
      | inr past ↦ absurd (let none : Contains [] u = subst (λ (us : List ℕ). Contains us u) (get_or_past graph h [] past) has in let l : none.0 < 0 = none.1 in omega arith)
    ]

retire_tended : {E : Type 0} (c : Setup) (m : State E) (at : ℕ) → NoneHold (refusals c m (Retire at)) → IsTended c m → IsTended c (accepted c m (Retire at)).state
retire_tended c m at none tended = record {
  left = λ h u here has.
      (let was : m.retired h ≡ false = (or_parts _ _ here).0 in
      or_from _ _ (tended.left h u was has) (elim (cases_eq u at) [
        | inr ne ↦ ne_eqb u at ne
        | inl e ↦
            let up : Contains (upstreams_of c.upstreams h) at = subst (Contains (upstreams_of c.upstreams h)) e has in
            let followed : is_followed c.upstreams m.retired at ≡ true =
            any_here (λ k. not (m.retired k) && is_in (upstreams_of c.upstreams k) at) (handlers c) h (has_upstream c.upstreams h u has)
            (and_from _ _ (ap not was) (is_in_from at (upstreams_of c.upstreams h) up)) in
            absurd (false≢true (sym none.1.1.0 ∙ followed))
      ]));
  owned = tended.owned;
}

accepted_tended : {E : Type 0} (c : Setup) (m : State E) (command : Command E) → IsTended c m → NoneHold (refusals c m command) → IsTended c (accepted c m command).state
accepted_tended c m (Claim p n) tended none = record {
  left = tended.left;
  owned =
      All-append (λ q. q < producers c.mode) m.owners (replicate n p) tended.owned
      (All-replicate (λ q. q < producers c.mode) n p (grind (arith, nat_tests, none.0)));
}
accepted_tended c m (Write p s v) tended none = record { left = tended.left; owned = tended.owned }
accepted_tended c m (Publish p lo hi) tended none = record { left = tended.left; owned = tended.owned }
accepted_tended {E} c m (Poll h limit) tended none =
    let P : Outcome E → Type 0 = λ o. IsTended c o.state in
    cond_both (nat_lt (slice_index m.taken h) (available c m h)) _ _ P (λ y. record { left = tended.left; owned = tended.owned })
    (λ n. cond_both (m.halted && (slice_index m.taken h == next m)) _ _ P (λ y. tended)
    (λ n'. cond_both (nat_lt (slice_index m.taken h) (cursor c m)) _ _ P (λ y. tended) (λ n''. tended)))
accepted_tended c m (Complete h upto) tended none = record { left = tended.left; owned = tended.owned }
accepted_tended c m Halt tended none = record { left = tended.left; owned = tended.owned }
accepted_tended c m (Retire h) tended none = retire_tended c m h none tended

pub tended_along : {E : Type 0} (c : Setup) (es : Transcript E) (m n : State E) → IsTended c m → LeadsFrom c m es n → IsTended c n
tended_along c [] m n tended leads = subst (IsTended c) leads tended
tended_along c (e ∷ es) m n tended leads =
    tended_along c es (step c m e.command).state n
    (unless-cases (λ o. IsTended c o.state) (refusals c m e.command) m (accepted c m e.command) (λ r. tended) (accepted_tended c m e.command tended))
    leads.2

pub opening_tended : {E : Type 0} (c : Setup) → IsTended {E = E} c (opening c)
opening_tended c = record { left = λ h u here has. refl; owned = All-nil (λ q. q < producers c.mode) }

-- the front is written and published by its producer
abbrev pub write_front : {E : Type 0} → State E → E → Command E
write_front m event = Write (slice_index m.owners (front m)) (front m) event

abbrev pub publish_front : {E : Type 0} → State E → Command E
publish_front m = Publish (slice_index m.owners (front m)) (front m) (front m)

abbrev pub with_front : {E : Type 0} → Setup → State E → E → State E
with_front c m event = (accepted c m (write_front m event)).state

-- a handler completed all events before the front
abbrev pub IsDone : {E : Type 0} → State E → ℕ → Type 0
IsDone m h = slice_index m.completed h ≡ front m

each_of : (P : ℕ → Type 0) (x : ℕ) (xs : List ℕ) → P x → ((h : ℕ) → Contains xs h → P h) → (h i : ℕ) → i < length (x ∷ xs) → get_or (x ∷ xs) i h ≡ h → P h
each_of P x xs here rest h zero lt at = subst P at here
each_of P x xs here rest h (suc i) lt at = rest h (i, omega arith, at)

-- each of some handlers has a property, or something else is so
all_or : (P : ℕ → Type 0) (Q : Type 0) (hs : List ℕ) → ((h : ℕ) → Contains hs h → P h ⊎ Q) → ((h : ℕ) → Contains hs h → P h) ⊎ Q
all_or P Q [] each = inl (λ h has. absurd (let l : has.0 < 0 = has.1 in omega arith))
all_or P Q (x ∷ xs) each =
    elim (each x (0, omega arith, refl)) [
      | inr other ↦ inr other
      | inl here ↦
          elim (all_or P Q xs (λ h has. each h (suc has.0, (let l : has.0 < length xs = has.1 in omega arith), has.2))) [
            | inr other ↦ inr other
            | inl rest ↦ inl (λ h has. each_of P x xs here rest h has.0 has.1 has.2)
          ]
    ]

and-false : (b : Bool) → (b && false) ≡ false
and-false true = refl
and-false false = refl

module _ {E : Type 0} (c : Setup) (m : State E) (sound : IsSound c m) (tended : IsTended c m) where
  -- a command that no test refuses
  pub goes : (command : Command E) → NoneHold (refusals c m command) → step c m command ≡ accepted c m command
  goes command none = unless-none (refusals c m command) m (accepted c m command) none

  may_take : (h : ℕ) → h < handlers c → m.retired h ≡ false → slice_index m.taken h < available c m h → MayTake c m h
  may_take h inside left more =
      let one : min (available c m h - slice_index m.taken h) 1 ≡ 1 = omega arith in (
        slice_index m.taken h + 1 == available c m h,
        ap (λ (o : Outcome E). o.reply) (goes (Poll h 1) (lt-leb _ _ inside, (left, (refl, tt))) ∙ cond-true _ _ _ (lt-ltb _ _ more))
            ∙ ap (λ n. Batch (slice_index m.taken h) n (slice_index m.taken h + n == available c m h)) one,
      )

  may_complete : (h : ℕ) → h < handlers c → m.retired h ≡ false → slice_index m.completed h < slice_index m.taken h → MayComplete c m h
  may_complete h inside left more = record {
    more = more;
    completes = ap (λ (o : Outcome E). o.reply) (goes (Complete h (slice_index m.taken h))
        (lt-leb _ _ inside, (left, (le-ltb _ _ (let l : slice_index m.completed h ≤ slice_index m.taken h = omega arith in l), (le-ltb _ _ (let l : slice_index m.taken h ≤ slice_index m.taken h = omega arith in l), tt)))));
  }

  -- who waits for a handler waits for whom that one waits for
  awaited_above : (h u : ℕ) → WaitsFor c m h u → AwaitedGoesOn c m u → AwaitedGoesOn c m h
  awaited_above h u waits above = record { awaited = above.awaited; path = u ∷ above.path; leads = (waits, above.leads); goes_on = above.goes_on }

  -- a handler is offered all before the front where its upstreams are done
  pub offered_all : (us : List ℕ) → ((u : ℕ) → Contains us u → IsDone m u) → front m ≤ offered m us
  offered_all [] done = omega arith
  offered_all (u ∷ us) done = least_above (λ h. slice_index m.completed h) (front m) u us (λ f has. let d : slice_index m.completed f ≡ front m = done f has in omega arith)

  -- a handler is offered what lies before the front, or what one of its upstreams completed
  offerer : (us : List ℕ) → (offered m us ≡ front m) ⊎ ((u : ℕ) × Contains us u × (offered m us ≡ slice_index m.completed u))
  offerer [] = inl refl
  offerer (u ∷ us) = inr (least_of-one (λ h. slice_index m.completed h) u us)

  -- a handler that is offered all before the front, and took and completed what it is offered, is done
  offered_done : (h : ℕ) → available c m h ≤ slice_index m.taken h → slice_index m.completed h ≡ slice_index m.taken h → available c m h ≡ front m → IsDone m h
  offered_done h taken completed all = (let high : slice_index m.taken h ≤ front m = sound.in_front h in omega arith)

  -- a handler can go on, or it took what it is offered, and completed that
  goes_or_rests : (h : ℕ) → h < handlers c → m.retired h ≡ false
      → AwaitedGoesOn c m h ⊎ ((available c m h ≤ slice_index m.taken h) × (slice_index m.completed h ≡ slice_index m.taken h))
  goes_or_rests h inside left =
      elim (cases_lt (slice_index m.taken h) (available c m h)) [
        | inl more ↦ inl (record { awaited = h; path = []; leads = refl; goes_on = inl (may_take h inside left more) })
        | inr taken ↦ elim (cases_lt (slice_index m.completed h) (slice_index m.taken h)) [
          | inl more ↦ inl (record { awaited = h; path = []; leads = refl; goes_on = inr (may_complete h inside left more) })
          | inr completed ↦ inr (taken, (let low : slice_index m.completed h ≤ slice_index m.taken h = sound.took h in omega arith))
        ]
      ]

  module _ (layered : IsLayered c.upstreams) where
    -- a handler can go on, or waits for the upstream that completed least, which is done, or can go on, or waits too
    done_up : (bound h : ℕ) → h < bound → h < handlers c → m.retired h ≡ false → IsDone m h ⊎ AwaitedGoesOn c m h
    done_up zero h low inside left = absurd (omega arith)
    done_up (suc bound) h low inside left =
        elim (goes_or_rests h inside left) [
          | inl goes ↦ inr goes
          | inr rests ↦ elim (offerer (upstreams_of c.upstreams h)) [
            | inl all ↦ inl (offered_done h rests.0 rests.1 all)
            | inr least ↦
                let u : ℕ = least.0 in
                let below : u < h = layered h u least.1 in
                let here : m.retired u ≡ false = tended.left h u left least.1 in
                let offers : available c m h ≡ slice_index m.completed u = least.2 in
                let taken : slice_index m.completed u ≤ slice_index m.taken h = rw offers at rests.0 in
                elim (done_up bound u (omega arith) (omega arith) here) [
                  | inl is ↦ inl (offered_done h rests.0 rests.1 (offers ∙ is))
                  | inr goes ↦ inr (awaited_above h u (record { upstream = least.1; left = here; taken = taken; completed = rests.1 }) goes)
                ]
          ]
        ]

    done : (h : ℕ) → h < handlers c → m.retired h ≡ false → IsDone m h ⊎ AwaitedGoesOn c m h
    done h inside left = done_up (suc h) h (omega arith) inside left

    drained : (h max : ℕ) → h < handlers c → m.retired h ≡ false → 0 < max → m.halted ≡ true → front m ≡ next m
        → (reply_to c m (Poll h max) ≡ Drained) ⊎ AwaitedGoesOn c m h
    drained h max inside left some halted all =
        elim (done h inside left) [
          | inr goes ↦ inr goes
          | inl is ↦
              let completed : slice_index m.completed h ≡ front m = is in
              let low : slice_index m.completed h ≤ slice_index m.taken h = sound.took h in
              let high : slice_index m.taken h ≤ front m = sound.in_front h in
              let offers : available c m h ≤ front m = offered-le c m sound (upstreams_of c.upstreams h) in
              let none : available c m h ≤ slice_index m.taken h = omega arith in
              let last : slice_index m.taken h ≡ next m = omega arith in
              let positive : max ≢ 0 = (λ e. omega arith) in
              inl
              (ap (λ (o : Outcome E). o.reply) (goes (Poll h max) (lt-leb _ _ inside, (left, (ne_eqb max 0 positive, tt))) ∙ cond-false _ _ _ (le-ltb _ _ none)
              ∙ cond-true _ _ _ (and_from _ _ halted (eq-eqb _ _ last))))
        ]

    module _ (gates : FinalsGate c.upstreams) (bounds : IsBounded c m) where
      -- a handler that gates leaves room for a claim, or waits for one that can go on
      leaves_room : (n : ℕ) → next m + n ≤ c.size + front m → (f : ℕ) → Contains (gating c m) f
          → (next m + n ≤ c.size + slice_index m.completed f) ⊎ ClaimAwaits c m n
      leaves_room n room f has =
          let here : (f < handlers c) × (m.retired f ≡ false) = final_left c.upstreams m.retired f has in
          elim (cases_lt (c.size + slice_index m.completed f) (next m + n)) [
            | inr fits ↦ inl fits
            | inl behind ↦ elim (done f here.0 here.1) [
              | inl is ↦ absurd (let d : slice_index m.completed f ≡ front m = is in omega arith)
              | inr goes ↦ inr (record { last = f; gates = has; behind = behind; goes_on = goes })
            ]
          ]

      -- those that gate leave room for a claim, or one of them that does not waits for one that can go on
      gate_open : (n : ℕ) → next m + n ≤ c.size + front m → (next m + n ≤ c.size + gate c m) ⊎ ClaimAwaits c m n
      gate_open n room =
          let one : IsGated c.upstreams m.retired (λ h. 0) bounds.left.0 = gates m.retired (λ h. 0) (λ h u has. omega arith) bounds.left.0 bounds.left.1 bounds.left.2 in
          elim (all_or (λ f. next m + n ≤ c.size + slice_index m.completed f) (ClaimAwaits c m n) (gating c m) (leaves_room n room)) [
            | inr waits ↦ inr waits
            | inl each ↦
                let least : next m + n - c.size ≤ gate c m =
                least_above_some (λ h. slice_index m.completed h) (next m + n - c.size) one.last (gating c m) one.final
                (λ f has. let l : next m + n ≤ c.size + slice_index m.completed f = each f has in omega arith) in
                inl (omega arith)
          ]

      claimed : (p n : ℕ) → p < producers c.mode → 0 < n → m.halted ≡ false → next m + n ≤ c.limit → next m + n ≤ c.size + front m
          → (reply_to c m (Claim p n) ≡ Claimed (next m) (next m + n - 1)) ⊎ ClaimAwaits c m n
      claimed p n producer some going limit room =
          elim (gate_open n room) [
            | inr waits ↦ inr waits
            | inl here ↦
                let positive : n ≢ 0 = (λ e. omega arith) in
                let low : front m ≤ next m = (least_is m.published (next m)).within in
                let fits : n ≤ c.size = omega arith in
                inl (ap (λ (o : Outcome E). o.reply) (goes (Claim p n) (lt-leb _ _ producer, (or_from _ _ (ne_eqb n 0 positive) (le-ltb _ _ fits), (going, (le-ltb _ _ limit, (le-ltb _ _ here, tt)))))))
          ]

  module _ (more : front m < next m) where
    unpublished : m.published (front m) ≡ false
    unpublished = (least_is m.published (next m)).here more

    producer : slice_index m.owners (front m) < producers c.mode
    producer = All-get_or (λ q. q < producers c.mode) m.owners (front m) 0 more tended.owned

    owned : not (slice_index m.owners (front m) == slice_index m.owners (front m)) ≡ false
    owned = ap not (eq-eqb _ _ refl)

    pub writes : (event : E) → step c m (write_front m event) ≡ accepted c m (write_front m event)
    writes event = goes (write_front m event) (lt-leb _ _ producer, (lt-leb _ _ more, (unpublished, (owned, tt))))

    faultless : (event : E) → NoneHold (publish_faults (with_front c m event) (slice_index m.owners (front m)) (front m))
    faultless event = (unpublished, (owned, (rw (eq-eqb (front m) (front m) refl) refl, tt)))

    none_left : (event : E) → NoneHold (refusals c (with_front c m event) (publish_front m))
    none_left event = (
      lt-leb _ _ producer,
      (
        le-ltb _ _ (let l : front m ≤ front m = omega arith in l),
        (
          lt-leb _ _ more,
          NoneHold-join _ _
              (NoneHold-stretch (publish_faults (with_front c m event) (slice_index m.owners (front m))) (front m) (front m + 1 - front m)
              (λ k lt. subst (λ s. NoneHold (publish_faults (with_front c m event) (slice_index m.owners (front m)) s)) (let e : front m ≡ front m + k = omega arith in e) (faultless event)))
              (ap (λ b. is_single c.mode && not b) (eq-eqb (front m) (front m) refl) ∙ and-false (is_single c.mode), tt),
        ),
      ),
    )

    pub publishes : (event : E) → step c (with_front c m event) (publish_front m) ≡ accepted c (with_front c m event) (publish_front m)
    publishes event = unless-none (refusals c (with_front c m event) (publish_front m)) (with_front c m event) _ (none_left event)

    may_publish : MayPublish c m (slice_index m.owners (front m)) (front m)
    may_publish = record {
      writes = λ event. ap (λ (o : Outcome E). o.reply) (writes event);
      publishes = λ event. subst (λ (o : Outcome E). reply_to c o.state (publish_front m) ≡ Published) (sym (writes event))
          (ap (λ (o : Outcome E). o.reply) (publishes event));
    }

pub nobody_is_stuck : {E : Type 0} (c : Setup) (t : Transcript E) (m : State E) → IsGraph c.upstreams → LeadsTo c t m → NobodyIsStuck c m
nobody_is_stuck c t m graph leads =
    let sound : IsSound c m = (reached c t m leads).sound in
    let tended : IsTended c m = tended_along c t (opening c) m (opening_tended c) leads in
    record {
      publishes = may_publish c m sound tended;
      completes = done c m sound tended graph.layered;
      claims = claimed c m sound tended graph.layered graph.gate (bounded c t m graph leads);
      drains = drained c m sound tended graph.layered;
    }
