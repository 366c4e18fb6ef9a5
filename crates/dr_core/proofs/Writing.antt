-- A write of the core is the machine's.
use Rattle.std.proofs.Common.{◌≡◌, ℕ, ◌+◌, ◌<◌, ◌≤◌, ◌≢◌, inl, inr, Bool, true, false, cond, not}
use Rattle.std.proofs.Common.{[], ◌∷◌, arith, refl, ap, ◌∙◌, slice_index, Option, Some, None}
use Rattle.std.specs.Prelude.{if◌then◌else◌, ◌==◌}
use Rattle.std.proofs.lemmas.Bool.{cond-true, cond-false, cases_Bool, cases_eq, lt-leb, ne_eqb, eq-eqb, eqb-true}
use Rattle.dr_meaning.specs.declared.command.Command.TheVariants.{Write}
use Rattle.dr_meaning.specs.declared.command.Reply.TheVariants.{Written, Refused}
use Rattle.dr_meaning.specs.declared.refusal.Refusal.{Refusal}
use Rattle.dr_meaning.specs.declared.refusal.Refusal.TheVariants.{NotClaimed, AlreadyPublished, NotWritten}
use Rattle.dr_meaning.specs.Meaning.Machine.{State, producers, next, front, accepted}
use Rattle.dr_core.specs.Calls.CoreView.{Known, Nothing, ClaimedBy, WrittenBy, PublishedWith, CoreView, recent_of, known_at}
use Rattle.dr_core.specs.Inside.Availability.{write_fault}
use Rattle.dr_core.specs.Calls.Shows.{KnowsRecents, Shows, Agrees, IsStep}
use Rattle.dr_core.specs.Inside.Fields.{IsWhole}
use Rattle.dr_core.proofs.Shown.{same_next, same_front}
use Rattle.dr_meaning.proofs.Leasts.{least_is}
use Rattle.dr_meaning.proofs.Steps.{Refuses}
use Rattle.dr_core.proofs.CoreSteps.{refused_step, accepted_step, known_at-recent}

-- all below the front is published
pub below_front : {E : Type 0} (v : CoreView E) (m : State E) → Shows v m → (s : ℕ) → s < v.front → m.published s ≡ true
below_front v m sh s l = (least_is m.published (next m)).below s (let f : front m ≡ v.front = same_front sh in omega arith)

-- what lies at the front or after it is in the slots
pub near : {E : Type 0} (v : CoreView E) → IsWhole v → (s : ℕ) → v.front ≤ s → v.next ≤ s + v.setup.size
near v whole s open' =
    let a : v.next ≤ v.setup.size + slice_index v.completed whole.left.0 = whole.room whole.left.0 whole.left.1 whole.left.2 in
    let b : slice_index v.completed whole.left.0 ≤ slice_index v.taken whole.left.0 = whole.took whole.left.0 in
    let d : slice_index v.taken whole.left.0 ≤ v.front = whole.in_front whole.left.0 in
    omega arith

-- a refusal of those that do not own a sequence
pub owned : (own : Bool) (r : Refusal) → cond own None (Some r) ≡ None → own ≡ true
owned own r e = elim (cases_Bool own) [ inl y ↦ y | inr n ↦ absurd (let f : ◌≡◌ {A = Option Refusal} (Some r) None = rw n at e in cc) ]

pub disowned : (own : Bool) (q r : Refusal) → cond own None (Some q) ≡ Some r → (own ≡ false) × (q ≡ r)
disowned own q r e =
    elim (cases_Bool own) [
      | inl y ↦ absurd (let f : ◌≡◌ {A = Option Refusal} None (Some r) = rw y at e in cc)
      | inr n ↦ (n, (let f : ◌≡◌ {A = Option Refusal} (Some q) (Some r) = rw n at e in cc))
    ]

-- a sequence that is claimed and not written is refused to every producer
pub unwritten_refused : (own : Bool) → cond own (Some NotWritten) (Some NotClaimed) ≡ None → ⊥
unwritten_refused own e = elim (cases_Bool own) [
  | inl y ↦ (let f : ◌≡◌ {A = Option Refusal} (Some NotWritten) None = rw y at e in cc)
  | inr n ↦ (let f : ◌≡◌ {A = Option Refusal} (Some NotClaimed) None = rw n at e in cc)
]

-- what refuses a write by what is known, and what the machine tests
write_ok : {E : Type 0} (known : Known E) (p o : ℕ) (b : Bool) (w : Option E) → Agrees known o b w → write_fault known p ≡ None → (b ≡ false) × ((o == p) ≡ true)
write_ok Nothing p o b w h e = absurd h
write_ok (ClaimedBy q) p o b w h e = (h.1, ap (λ k. k == p) h.0 ∙ owned (q == p) NotClaimed e)
write_ok (WrittenBy q event) p o b w h e = (h.1, ap (λ k. k == p) h.0 ∙ owned (q == p) NotClaimed e)
write_ok (PublishedWith event) p o b w h e = absurd (let f : ◌≡◌ {A = Option Refusal} (Some AlreadyPublished) None = e in cc)

write_err : {E : Type 0} (known : Known E) (p o : ℕ) (b : Bool) (w : Option E) (r : Refusal) → Agrees known o b w → write_fault known p ≡ Some r
    → Refuses r ((b, AlreadyPublished) ∷ (not (o == p), NotClaimed) ∷ [])
write_err Nothing p o b w r h e = absurd h
write_err (ClaimedBy q) p o b w r h e =
    let d : ((q == p) ≡ false) × (NotClaimed ≡ r) = disowned (q == p) NotClaimed r e in inr (h.1, inl (ap not (ap (λ k. k == p) h.0 ∙ d.0), d.1))
write_err (WrittenBy q event) p o b w r h e =
    let d : ((q == p) ≡ false) × (NotClaimed ≡ r) = disowned (q == p) NotClaimed r e in inr (h.1, inl (ap not (ap (λ k. k == p) h.0 ∙ d.0), d.1))
write_err (PublishedWith event) p o b w r h e = inl (h.0, (let f : ◌≡◌ {A = Option Refusal} (Some AlreadyPublished) (Some r) = e in cc))

-- what lies before the front is published
pub write_front : {E : Type 0} (v : CoreView E) (p s : ℕ) (x : E) → p < producers v.setup.mode → s < v.next → s < v.front
    → IsStep v (Write p s x) (Refused AlreadyPublished) [] v
write_front v p s x producer claimed old =
    refused_step v (Write p s x) AlreadyPublished
    (λ m sh. inr (lt-leb _ _ producer, inr ((let n : next m ≡ v.next = same_next sh in rw n (lt-leb _ _ claimed)), inl (below_front v m sh s old, refl))))

-- what a write leaves known: the sequence is written, and of the others as much as before
pub record WritesKnown {E : Type 0} (v : CoreView E) (p s : ℕ) (x : E) (known : ℕ → Known E) : Type 0 where
  pub here : known s ≡ WrittenBy p x
  pub kept : (k : ℕ) → k ≢ s → k < v.next → v.next ≤ k + v.setup.size → known k ≡ known_at v k

module _ {E : Type 0} (v : CoreView E) (p s : ℕ) (x : E) (whole : IsWhole v) (producer : p < producers v.setup.mode) (claimed : s < v.next) (open' : v.front ≤ s) where
  there : (m : State E) → Shows v m → Agrees (known_at v s) (slice_index m.owners s) (m.published s) (m.written s)
  there m sh = sh.recent s claimed (near v whole s open')

  pub write_refused : (r : Refusal) → write_fault (known_at v s) p ≡ Some r → IsStep v (Write p s x) (Refused r) [] v
  write_refused r e =
      refused_step v (Write p s x) r
      (λ m sh. inr
      (lt-leb _ _ producer, inr ((let n : next m ≡ v.next = same_next sh in rw n (lt-leb _ _ claimed)), write_err (known_at v s) p _ _ _ r (there m sh) e)))

  written_recents : (known : ℕ → Known E) → WritesKnown v p s x known → (m : State E) → Shows v m → m.published s ≡ false → slice_index m.owners s ≡ p
      → KnowsRecents v.setup.size v.next (known_at (record v { recent = recent_of known v.next v.setup.size })) m.owners m.published
      (accepted v.setup m (Write p s x)).state.written
  written_recents known knows m sh hidden mine =
      record {
        recent = λ k l r. rw (known_at-recent known v.next v.setup.size k l r) (elim (cases_eq k s) [
          | inl e ↦ (let here : known k ≡ WrittenBy p x = ap known e ∙ knows.here in
              rw here (ap (λ i. slice_index m.owners i) e ∙ mine, ap m.published e ∙ hidden, cond-true (k == s) _ _ (eq-eqb k s e)))
          | inr ne ↦ (let same : (if k == s then Some x else m.written k) ≡ m.written k = cond-false (k == s) _ _ (ne_eqb k s ne) in
              rw (knows.kept k ne l r, same) (sh.recent k l r))
        ]);
        unclaimed = λ k g. ((sh.unclaimed k g).0, cond-false (k == s) _ _ (ne_eqb k s (λ e. absurd (omega arith))) ∙ (sh.unclaimed k g).1);
      }

  pub write_step : (known : ℕ → Known E) → WritesKnown v p s x known → write_fault (known_at v s) p ≡ None
      → IsStep v (Write p s x) Written [] (record v { recent = recent_of known v.next v.setup.size })
  write_step known knows e =
      accepted_step refl refl (λ m sh.
      let may : (m.published s ≡ false) × ((slice_index m.owners s == p) ≡ true) = write_ok (known_at v s) p _ _ _ (there m sh) e in
      record {
        passes = (lt-leb _ _ producer, (rw (same_next sh) (lt-leb _ _ claimed), (may.0, (ap not may.1, tt))));
        replies = refl;
        hands_out = refl;
        shown = record { counts = sh.counts; flags = sh.flags; recents = written_recents known knows m sh may.0 (eqb-true _ _ may.1) };
      })
